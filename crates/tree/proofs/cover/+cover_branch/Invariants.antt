-- It ends since the levels below its node fall.
use Rattle.tree.proofs.cover.+cover_branch.Given as goal

abbrev pub decreases-cover_branch : goal.decreases-cover_branch
decreases-cover_branch l = l.at.levels
