-- What stays hidden from who has some labels and hears all: `hidden` is false of all that can be worked out. Assumes nothing.
use Rattle.std.proofs.Common.{◌≡◌, ℕ, ◌+◌, ◌*◌, ◌≤◌, Bool, true, false, cond, not, ◌&&◌, eqb, ltb, List, Decides, sym, refl, ap, ◌∙◌, subst, ap₂, inl, inr, ⊎_elim, arith}
use mathlib.Core.List.Memᴰ
use mathlib.Core.List.Memᴰ.{tail as there}
use native.Mathlib.Decide.{ℕ_discrete}
use Rattle.std.proofs.lemmas.Bool.{cond_both, cond-true, and_from, and_parts, lt-ltb, ltb-true}
use Rattle.std.proofs.lemmas.Bool.Decides.{same_from_decides, Decides-eqb, Decides-and, Decides-not, Decides-like}
use Rattle.tree.specs.declared.parts.Part.{Part}
use Rattle.tree.proofs.Tests.{T_true}
use Rattle.secrecy.specs.Lists.{◌∈◌}
use Rattle.secrecy.specs.Terms.{Term, Term-discrete, Start, Left, Right, Middle, Pad, Check, Session, Noise, Xor, is_label, label_of, key, made}
use Rattle.secrecy.specs.Held.{Labels, Knows}
use Rattle.secrecy.specs.Air.{Trial, true_parts, header, view, Once}
use Rattle.secrecy.specs.Gets.{Alike, swap, regroup, cancel, in_xor, in_left, in_right, in_middle, in_pad, in_check, back, then, Gets, given, noise, left, right, middle, pad, check, xor, alike}
use Rattle.secrecy.specs.Promise.{Opens, OpensSome}
use Rattle.secrecy.proofs.Lists.{any, any_decides, listed, listed_decides, by_value}
use Rattle.secrecy.proofs.Made.{made_self, by_label}
use Rattle.secrecy.proofs.Labels.{root, label_of_is}
use Rattle.secrecy.proofs.Air.{OnAir, in_air}
use Rattle.secrecy.proofs.Sum.{plus, Sum, add, only, add_swap, add_group, add_cancel, tree_of, path_of, label_at, at_left, at_right, at_label}

-- the tests of what the labels give

abbrev pub known : List Term → Term → Bool
known own t = any (λ l. listed (Term-discrete ℕ_discrete) l (made t)) own

pub known_decides : (own : List Term) (t : Term) → Decides (known own t) (Knows own t)
known_decides own t =
    let same = Term-discrete ℕ_discrete in
    any_decides (λ l. listed same l (made t)) (λ l. l ∈ made t) (λ l. listed_decides same l (made t)) own

known_down : (own : List Term) (t u : Term) → ((l : Term) → l ∈ made t → l ∈ made u) → known own t ≡ true → known own u ≡ true
known_down own t u f e = let w = (known_decides own t).0 e in (known_decides own u).1 (w.0, w.1, f w.0 w.2)

module _ (own : List Term) (h : ℕ) (log : List Trial) where
  abbrev opens : Trial → Bool
  opens m = any (λ p. known own (label_of m.tree h p)) (true_parts m)

  opens_decides : (m : Trial) → Decides (opens m) (Opens own h m)
  opens_decides m =
      let label : Part → Term = label_of m.tree h in
      any_decides (λ p. known own (label p)) (λ p. Knows own (label p)) (λ p. known_decides own (label p)) (true_parts m)

  abbrev pub shown : ℕ → Bool
  shown s = any (λ m. eqb m.session s && opens m) log

  pub shown_decides : (s : ℕ) → Decides (shown s) (OpensSome own h s log)
  shown_decides s =
      any_decides (λ m. eqb m.session s && opens m) (λ m. (m.session ≡ s) × Opens own h m)
      (λ m. Decides-and (eqb m.session s) (opens m) (Decides-eqb m.session s) (opens_decides m)) log

  -- whether the session key of the signal numbered n stays hidden
  abbrev quiet : ℕ → Bool
  quiet n = any (λ m. eqb m.number n && not (shown m.session)) log

  abbrev Hides : Trial → Type 0
  Hides m = OpensSome own h m.session log → ⊥

  hides_decides : (m : Trial) → Decides (not (shown m.session)) (Hides m)
  hides_decides m = Decides-not (shown m.session) (shown_decides m.session)

  quiet_decides : (n : ℕ) → Decides (quiet n) ((m : Trial) × (m ∈ log) × ((m.number ≡ n) × Hides m))
  quiet_decides n =
      any_decides (λ m. eqb m.number n && not (shown m.session)) (λ m. (m.number ≡ n) × Hides m)
      (λ m. Decides-and (eqb m.number n) (not (shown m.session)) (Decides-eqb m.number n) (hides_decides m)) log

  -- no number is used twice, so that a signal is known by it
  quiet_at : Once log → (m : Trial) → m ∈ log → quiet m.number ≡ not (shown m.session)
  quiet_at once m k =
      same_from_decides (quiet m.number) (not (shown m.session))
      (Decides-like (quiet m.number)
      (λ (t, i, (e, none)). subst Hides (by_value (λ (t : Trial). t.number) log once t m i k e) none)
      (λ none. (m, k, (refl, none))) (quiet_decides m.number))
      (hides_decides m)

  -- the sum of a term

  abbrev hides : ℕ → ℕ → ℕ → Bool
  hides g i c = not (known own (label_at g i c))

  abbrev point : ℕ → ℕ → ℕ → Sum
  point g i c = record { flag = hides g i c; kind = 1; tree = g; node = i; path = c }

  -- whether a sum is a label's
  abbrev is_point : Sum → Bool
  is_point v = eqb v.kind 1 && (ltb 0 v.path && not (plus v.flag (hides v.tree v.node v.path)))

  abbrev step : Sum → ℕ → Sum
  step v c = cond (is_point v) (point v.tree v.node c) (only false)

  unfoldable pub sum : Term → Sum
  sum (Start g i) = point g i 1
  sum (Left t) = step (sum t) (2 * (sum t).path)
  sum (Right t) = step (sum t) (2 * (sum t).path + 1)
  sum (Middle t) = only (sum t).flag
  sum (Pad k n) = only ((sum k).flag && quiet n)
  sum (Check k n) = only false
  sum (Session s) = only (not (shown s))
  sum (Noise n i) = only false
  sum (Xor a b) = add (sum a) (sum b)

  abbrev pub hidden : Term → Bool
  hidden t = (sum t).flag

  -- alike terms have one sum
  alike_sum : {a b : Term} → Alike a b → sum a ≡ sum b
  unfolding sum
  alike_sum (swap a b) = add_swap (sum a) (sum b)
  alike_sum (regroup a b c) = add_group (sum a) (sum b) (sum c)
  alike_sum (cancel a b) = add_cancel (sum a) (sum b)
  alike_sum (in_xor {c = c} r) = ap (λ (v : Sum). add v (sum c)) (alike_sum r)
  alike_sum (in_left r) = ap (λ (v : Sum). step v (2 * v.path)) (alike_sum r)
  alike_sum (in_right r) = ap (λ (v : Sum). step v (2 * v.path + 1)) (alike_sum r)
  alike_sum (in_middle r) = ap (λ (v : Sum). only v.flag) (alike_sum r)
  alike_sum (in_pad n r) = ap (λ (v : Sum). only (v.flag && quiet n)) (alike_sum r)
  alike_sum (in_check n r) = refl
  alike_sum (back r) = sym (alike_sum r)
  alike_sum (then r s) = alike_sum r ∙ alike_sum s

  step_point : (g i c c' : ℕ) → 1 ≤ c → step (point g i c) c' ≡ point g i c'
  step_point g i c c' pos =
      cond-true (is_point (point g i c)) (point g i c') (only false)
      (and_from (ltb 0 c) (not (plus (hides g i c) (hides g i c))) (lt-ltb 0 c pos) (go (hides g i c)))
    where
      go : (x : Bool) → not (plus x x) ≡ true
      go x = grind arith

  sum_label : (t : Term) → is_label t ≡ true → (1 ≤ path_of t) × (sum t ≡ point (tree_of t) (root t) (path_of t))
  unfolding sum
  sum_label =
      by_label (λ (t : Term). (1 ≤ path_of t) × (sum t ≡ point (tree_of t) (root t) (path_of t))) (λ g i. (omega arith, refl))
      (λ t w. (
        omega (arith, w.0),
        ap (λ (v : Sum). step v (2 * v.path)) w.1 ∙ step_point (tree_of t) (root t) (path_of t) (2 * path_of t) w.0,
      ))
      (λ t w. (
        omega (arith, w.0),
        ap (λ (v : Sum). step v (2 * v.path + 1)) w.1 ∙ step_point (tree_of t) (root t) (path_of t) (2 * path_of t + 1) w.0,
      ))

  hidden_label : (t : Term) → is_label t ≡ true → hidden t ≡ not (known own t)
  hidden_label t e = ap (λ (v : Sum). v.flag) (sum_label t e).1 ∙ ap (λ (x : Term). not (known own x)) (at_label t e).1

  pub hidden_key : (g : ℕ) (p : Part) → hidden (key g h p) ≡ not (known own (label_of g h p))
  unfolding sum
  hidden_key g p = hidden_label (label_of g h p) (label_of_is g h p)

  -- the label that a sum is of
  abbrev label_for : Sum → Term
  label_for v = label_at v.tree v.node v.path

  -- a step from what is not hidden is not hidden
  step_down : (v : Sum) (c : ℕ) → (1 ≤ v.path → known own (label_for v) ≡ true → known own (label_at v.tree v.node c) ≡ true) →
      v.flag ≡ false → (step v c).flag ≡ false
  step_down v c f e =
      cond_both (is_point v) (point v.tree v.node c) (only false) (λ (x : Sum). x.flag ≡ false)
      (λ q. let plain = not (plus v.flag (not (known own (label_for v)))) in
      let a = and_parts (eqb v.kind 1) (ltb 0 v.path && plain) q in
      let b = and_parts (ltb 0 v.path) plain a.1 in
      ap not (f (ltb-true 0 v.path b.0) (go v.flag (known own (label_for v)) e b.1)))
      (λ q. refl)
    where
      go : (x y : Bool) → x ≡ false → not (plus x (not y)) ≡ true → y ≡ true
      go x y p q = grind arith

  hidden_left : (t : Term) → hidden t ≡ false → hidden (Left t) ≡ false
  unfolding sum made
  hidden_left t =
      let v = sum t in
      step_down v (2 * v.path)
      (λ pos e. ap (known own) (at_left v.tree v.node v.path pos) ∙ known_down own (label_for v) (Left (label_for v)) (λ l m. there m) e)

  hidden_right : (t : Term) → hidden t ≡ false → hidden (Right t) ≡ false
  unfolding sum made
  hidden_right t =
      let v = sum t in
      step_down v (2 * v.path + 1)
      (λ pos e. ap (known own) (at_right v.tree v.node v.path pos) ∙ known_down own (label_for v) (Right (label_for v)) (λ l m. there m) e)

  module _ (once : Once log) (labels : Labels own) where
    -- a header gives nothing away: where its pad is hidden its session key is too, and the two added are not
    heard : (m : Trial) → m ∈ log → (p : Part) → p ∈ true_parts m → (t : Term) → t ∈ header h m p → hidden t ≡ false
    unfolding sum
    heard m k p j t i = ⊎_elim (λ e. ap hidden e ∙ sealed) (λ q. ap hidden (Memᴰ.eq_of_singleton q)) (Memᴰ.cases_cons i)
      where
        go : (k o q s : Bool) → k ≡ not o → q ≡ not s → (o ≡ true → s ≡ true) → plus (k && q) (not s) ≡ false
        go k o q s a b c = grind arith

        sealed : plus (hidden (key m.tree h p) && quiet m.number) (not (shown m.session)) ≡ false
        sealed =
            let l = label_of m.tree h p in
            go (hidden (key m.tree h p)) (known own l) (quiet m.number) (shown m.session) (hidden_key m.tree p) (quiet_at once m k)
            (λ q. (shown_decides m.session).1 (m, k, (refl, (p, j, (known_decides own l).0 q))))

    on_air : (t : Term) → OnAir h log t → hidden t ≡ false
    unfolding sum
    on_air t (inl (m, k, p, j, i)) = heard m k p j t i
    on_air t (inr (n, i, e)) = ap hidden e

    in_hand : (t : Term) → t ∈ own → hidden t ≡ false
    in_hand t m = hidden_label t (T_true (is_label t) (labels t m)) ∙ ap not ((known_decides own t).1 (t, m, made_self t))

    pub gets_not_hidden : {t : Term} → Gets (view own h log) t → hidden t ≡ false
    unfolding sum
    gets_not_hidden (given {t} m) = ⊎_elim (in_hand t) (λ q. on_air t (in_air h log t q)) (Memᴰ.append_cases own m)
    gets_not_hidden (noise n i) = refl
    gets_not_hidden (left {t} g) = hidden_left t (gets_not_hidden g)
    gets_not_hidden (right {t} g) = hidden_right t (gets_not_hidden g)
    gets_not_hidden (middle g) = gets_not_hidden g
    gets_not_hidden (pad n g) = ap (λ (b : Bool). b && quiet n) (gets_not_hidden g)
    gets_not_hidden (check n g) = refl
    gets_not_hidden (xor g k) = ap₂ plus (gets_not_hidden g) (gets_not_hidden k)
    gets_not_hidden (alike a r g) = ap (λ (v : Sum). v.flag) (sym (alike_sum r)) ∙ gets_not_hidden g
