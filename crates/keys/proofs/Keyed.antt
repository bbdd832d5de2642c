-- The key of a part is the middle of where the walk from its start ends. Assumes nothing.
use Rattle.std.proofs.Common.{◌≡◌, ℕ, true, cond, T, List, Some, None, Option, refl, ap, ◌∙◌}
use Rattle.std.proofs.lemmas.Float.{T_from_true}
use Rattle.tree.specs.declared.parts.Part.{Part}
use Rattle.tree.specs.Parts.{proper}
use Rattle.tree.proofs.Tests.{told}
use Rattle.secrecy.specs.Terms.{Start, Middle, label_of}
use Rattle.secrecy.specs.Worlds.{Point, bytes}
use Rattle.keys.specs.Asking.{point}
use Rattle.keys.specs.Drawn.{Draws, world}
use Rattle.keys.specs.Down.{steps_down, last_nodes, down}
use Rattle.keys.specs.Promise.{WorksOut, PartKey, AskedDown, AskedKey}
use Rattle.keys.proofs.Asked.{asked_more}
use Rattle.keys.proofs.Downs.{part_down}

module _ (f : List ℕ → ℕ → List ℕ) (h : ℕ) (p : Part) (n : ℕ)
    (found : ◌≡◌ {A = Option ℕ} (Some n) (cond (proper h p) (Some (steps_down h p.first p.second)) None))
    (start label : List ℕ) (walked : WorksOut f (down (last_nodes n p.second)) start label) where
  is_proper : proper h p ≡ true
  is_proper = (told (proper h p) n (steps_down h p.first p.second) found).0

  all_steps : n ≡ steps_down h p.first p.second
  all_steps = (told (proper h p) n (steps_down h p.first p.second) found).1

  label_is : (d : Draws) (g : ℕ) → start ≡ bytes (world f d) (Start g p.first) → label ≡ bytes (world f d) (label_of g h p)
  label_is d g e = walked d (Start g p.first) e ∙ rw all_steps (ap (bytes (world f d)) (part_down g h p is_proper))

  pub key_is : (k : List ℕ) → WorksOut f Middle label k → T (proper h p) × PartKey f h p start k
  key_is k middle = (T_from_true (proper h p) is_proper, λ d g e. middle d (label_of g h p) (label_is d g e))

  pub key_asked : {S : Type 0} (steps : S → Point → S → Type 0) (s t u : S) → AskedDown f steps (last_nodes n p.second) start s t → steps t (point label 1) u →
      AskedKey f steps h p start s u
  key_asked steps s t u before last d g e =
      let same = label_is d g e in
      rw (is_proper, ← all_steps) (asked_more steps _ _ s t u (before d (Start g p.first) e) (u, rw same at last, refl))
