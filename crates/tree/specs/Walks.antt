-- What is left of a receiver's way while it is walked. Assumes nothing.
use Rattle.std.specs.Prelude.{suc, ◌/◌, List, ◌++◌}
use Rattle.tree.specs.declared.parts.Part.{Part}
use Rattle.tree.specs.declared.way.Way.{Way}
use Rattle.tree.specs.Ways.{hanging, above}

abbrev pub left_of : Way → List Part
left_of w = hanging w.hanging w.first w.node ++ above w.above (suc w.steps) (w.first / 2) w.leaf
