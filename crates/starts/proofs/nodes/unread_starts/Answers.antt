-- Each node begins with zeros, which is what was read of it.
use Rattle.std.proofs.Common.{◌≡◌, [], map, ap, ◌∙◌, vec_items, Vec, rules}
use Rattle.std.specs.List.{All}
use Rattle.std.proofs.lemmas.Result.{IfOk-weaker}
use Rattle.std.proofs.lemmas.Iterator.{YieldsList-from_slice, YieldsList-from_map, items_from_collect}
use Rattle.std.specs.declared.alloc.Global.{Global}
use Rattle.starts.specs.declared.start.Start.{Start}
use Rattle.starts.specs.Kept.{KeptNodes}
use Rattle.starts.specs.Window.{nodes_of, AsRead}
use Rattle.starts.proofs.Begun.{unread, begun}
use Rattle.starts.proofs.nodes.unread_starts.Goals as goal

pub returns : goal.returns
returns c =
    let kept = c.in_ok-nodes.ensures in
    let made = items_from_collect _ c.collect.ensures.ran (YieldsList-from_map _ unread (YieldsList-from_slice c.deref.result.now cc) c.map.ensures.closure (λ x r q k. search rules)) in
    IfOk-weaker c.collect.result (λ (v : Vec Start Global). vec_items v ≡ map unread c.deref.result.now)
    (λ (v : Vec Start Global). KeptNodes c.args.asked.height.levels c.args.asked.list.now (nodes_of (vec_items v)) × All (AsRead []) (vec_items v))
    (λ v e. begun _ _ _ (vec_items v) kept (e ∙ ap (map unread) c.deref.ensures.value)) made
