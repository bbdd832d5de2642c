-- Each turn writes one level more behind those below it.
use Rattle.std.proofs.Common.{◌≡◌, ◌+◌, ◌*◌, ◌^◌, ◌≤◌, length, refl, add-one, arith, pow_mono}
use Rattle.std.proofs.lemmas.List.{take_rest, length-drop}
use Rattle.keys.specs.Drawn.{world}
use Rattle.issuing.proofs.Levels.{filled_none, filled_more, filled_all, levels, levels_fit, levels_more}
use Rattle.issuing.proofs.file.write_levels.Goals as goal
use Rattle.issuing.proofs.file.write_levels.Goals.{In-loop-level}

pub loop-level-init : goal.loop-level-init
unfolding levels
loop-level-init g c = (refl, λ d tree s. filled_none (world g.C.Cipher.gives d) tree c.args.sources.now.height.levels c.args.sources.now.own c.args.out.now)

fits : (g : _) (c : In-loop-level g) → c.loop-level.at + 40 * (c.loop-level.level + 1) ≤ length c.loop-level.out
fits g c =
    let v = c.args.sources.now in
    omega (arith, levels_fit c.loop-level.level v.height.levels v.own c.loop-level.at (length c.loop-level.out) c.loop-level-test.true c.loop-level.invariant.0 (omega arith))

pub slice_bounds-write_under-count : goal.slice_bounds-write_under-count
slice_bounds-write_under-count g c = omega (arith, fits g (goal.at.slice_bounds-write_under-count g c).In-loop-level)

pub slice_bounds-write_under-start : goal.slice_bounds-write_under-start
slice_bounds-write_under-start g c = omega (arith, fits g (goal.at.slice_bounds-write_under-start g c).In-loop-level)

pub write_under-requires : goal.write_under-requires
write_under-requires g c =
    let n = c.loop-level.level in
    let out = c.loop-level.out in
    let far : 2 ^ (n + 1) ≤ c.args.sources.now.own = omega (arith, pow_mono {i = n + 1} {j = c.args.sources.now.height.levels} (omega arith)) in
    (omega arith, (far, rw (take_rest out c.loop-level.at, length-drop c.loop-level.at out) (omega (arith, fits g (goal.at.write_under-requires g c).In-loop-level))))

pub overflow_add-at : goal.overflow_add-at
overflow_add-at g c = omega (arith, fits g (goal.at.overflow_add-at g c).In-loop-level)

pub loop-level-preserved : goal.loop-level-preserved
loop-level-preserved g c =
    let n = c.loop-level.level in
    let x = c.args.sources.now.own in (
      levels_more n x c.loop-level.at c.loop-level.invariant.0,
      λ d tree s.
          let w = world g.C.Cipher.gives d in
          let wrote = c.write_under.ensures d tree c.args.sources.now.height.levels (omega arith) (rw (add-one n) (s n c.loop-level-test.true)) in
          rw (add-one n) (filled_more w tree c.args.sources.now.height.levels x c.args.out.now n c.loop-level.at c.loop-level.out c.write_under.new.out c.loop-level.invariant.0 (c.loop-level.invariant.1 d tree s) (rw (add-one n) at wrote)),
    )

pub returns : goal.returns
returns g c d tree s =
    let all : c.loop-level.level ≡ c.args.sources.now.height.levels = omega arith in
    filled_all (world g.C.Cipher.gives d) tree c.args.sources.now.height.levels c.args.sources.now.own c.args.out.now c.loop-level.out (rw all at (c.loop-level.invariant.1 d tree s))
