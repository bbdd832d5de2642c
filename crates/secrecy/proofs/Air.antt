-- What is on the air, term by term. Assumes nothing.
use Rattle.std.proofs.Common.{◌≡◌, ℕ, suc, ◌⊎◌, List, [], ◌∷◌, refl, inl, inr, ⊎_elim}
use mathlib.Core.List.Memᴰ
use mathlib.Core.List.Memᴰ.{head as here}
use Rattle.tree.specs.declared.parts.Part.{Part}
use Rattle.secrecy.specs.Lists.{◌∈◌}
use Rattle.secrecy.specs.Terms.{Term, Pad, Session, Noise, Xor, key}
use Rattle.secrecy.specs.Air.{Sending, Trial, as_trial, false_parts, true_parts, header, noises, sent, air, signals}
use Rattle.secrecy.proofs.Lists.{in_joined, joined_in}

-- a term of a true header, or noise
abbrev pub OnAir : ℕ → List Trial → Term → Type 0
OnAir h log t =
    ((m : Trial) × (m ∈ log) × (p : Part) × (p ∈ true_parts m) × (t ∈ header h m p)) ⊎ ((n : ℕ) × (i : ℕ) × (t ≡ Noise n i))

in_noises : (n i : ℕ) (ps : List Part) (t : Term) → t ∈ noises n i ps → (n : ℕ) × (i : ℕ) × (t ≡ Noise n i)
unfolding noises
in_noises n i [] t m = absurd (Memᴰ.not-nil m)
in_noises n i (p ∷ ps) t m = ⊎_elim (λ e. (n, i, e)) (in_noises n (suc i) ps t) (Memᴰ.cases_cons m)

pub in_air : (h : ℕ) (log : List Trial) (t : Term) → t ∈ air h log → OnAir h log t
in_air h log t k =
    let w = in_joined (sent h) log t k in
    let m = w.0 in
    ⊎_elim (λ q. inr (in_noises m.number 0 (false_parts m) t q))
    (λ q. let v = in_joined (header h m) (true_parts m) t q in inl (m, w.1, v.0, v.1, v.2))
    (Memᴰ.append_cases (noises m.number 0 (false_parts m)) w.2)

air_in : (h : ℕ) (log : List Trial) (m : Trial) → m ∈ log → (p : Part) → p ∈ true_parts m → (t : Term) → t ∈ header h m p → t ∈ air h log
air_in h log m k p j t i =
    joined_in (sent h) log m t k (Memᴰ.append_right (noises m.number 0 (false_parts m)) (joined_in (header h m) (true_parts m) p t j i))

-- the covered session key of a true header
abbrev pub sealed : ℕ → Trial → Part → Term
sealed h m p = Xor (Pad (key m.tree h p) m.number) (Session m.session)

pub sealed_in : (h : ℕ) (log : List Trial) (m : Trial) → m ∈ log → (p : Part) → p ∈ true_parts m → sealed h m p ∈ air h log
sealed_in h log m k p j = air_in h log m k p j (sealed h m p) (here refl)

-- a sending is among the signals
pub signal_in : (h : ℕ) (ss : List Sending) (ts : List Trial) (m : Sending) → m ∈ ss → as_trial h m ∈ signals h ss ts
signal_in h ss ts m k = Memᴰ.append_left ts (Memᴰ.map (as_trial h) k)
