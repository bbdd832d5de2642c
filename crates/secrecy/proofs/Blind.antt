-- Every choice of fresh values fits what is seen by who opens no header. Assumes nothing.
use Rattle.std.proofs.Common.{◌≡◌, ℕ, false, cond, eqb, ◌⊎◌, List, [], ◌∷◌, map, take, sym, refl, ap, ◌∙◌, subst, inl, inr, ⊎_elim}
use mathlib.Core.List.Memᴰ
use mathlib.Core.List.Memᴰ.{head as here}
use mathlib.Core.List.Memᴰ.{tail as there}
use Rattle.std.specs.List.{flat_map}
use Rattle.std.proofs.lemmas.Bool.{both_ways, eqb-true, eq-eqb, cond_both, cond-true, cond-false, false_from_ne_true}
use Rattle.tree.specs.declared.parts.Part.{Part}
use Rattle.tree.proofs.Tests.{T_true}
use Rattle.secrecy.specs.Lists.{◌∈◌}
use Rattle.secrecy.specs.Terms.{Term, Session, is_label, label_of, key, show_key, made}
use Rattle.secrecy.specs.Air.{Trial, true_parts, view}
use Rattle.secrecy.specs.Worlds.{xors, bytes, seen, Point, answer, asked, OpensAt, keys_of, secrets}
use Rattle.secrecy.specs.Blind.{answers, asks, Other, Blind}
use Rattle.secrecy.proofs.Lists.{in_joined, joined_in}
use Rattle.secrecy.proofs.Made.{made_self, all_made, label_made}
use Rattle.secrecy.proofs.Labels.{label_of_is}
use Rattle.secrecy.proofs.Change.{opens_at_decides, Change, new, pick, delta, opened, block', world', new_is, Clear, pick_miss, new_middle, label_new, middle_new}
use Rattle.secrecy.proofs.View.{run_same, other}

-- the key of a true header of the show
abbrev KeyOf : ℕ → ℕ → List Trial → Term → Type 0
KeyOf h s log k = (m : Trial) × (m ∈ log) × ((m.session ≡ s) × ((p : Part) × (p ∈ true_parts m) × (key m.tree h p ≡ k)))

-- the keys of one signal
abbrev keys_in : ℕ → ℕ → Trial → List Term
keys_in h s m = cond (eqb m.session s) (map (key m.tree h) (true_parts m)) []

in_keys : (h s : ℕ) (log : List Trial) (k : Term) → k ∈ keys_of h s log → KeyOf h s log k
in_keys h s log k j =
    let w = in_joined (keys_in h s) log k j in
    let m = w.0 in (
      m,
      w.1,
      cond_both (eqb m.session s) _ _ (λ (ks : List Term). k ∈ ks → (m.session ≡ s) × ((p : Part) × (p ∈ true_parts m) × (key m.tree h p ≡ k)))
          (λ e q. (eqb-true m.session s e, Memᴰ.of_map (key m.tree h) (true_parts m) q)) (λ e q. absurd (Memᴰ.not-nil q)) w.2,
    )

keys_in_lem : (h s : ℕ) (log : List Trial) (m : Trial) → m ∈ log → m.session ≡ s → (p : Part) → p ∈ true_parts m →
    key m.tree h p ∈ keys_of h s log
keys_in_lem h s log m k e p j =
    let keys = map (key m.tree h) (true_parts m) in
    let all = sym (cond-true (eqb m.session s) keys [] (eq-eqb m.session s e)) in
    let mine = subst (λ (ks : List Term). key m.tree h p ∈ ks) all (Memᴰ.map (key m.tree h) j) in
    joined_in (keys_in h s) log m (key m.tree h p) k mine

-- what is to stay hidden: the show's key, the session key, the key of a header, or a label that such a key comes from
abbrev InPart : ℕ → Trial → Part → Term → Type 0
InPart h m p t = (t ≡ key m.tree h p) ⊎ (t ∈ made (label_of m.tree h p))

abbrev Secret : ℕ → ℕ → List Trial → Term → Type 0
Secret h s log t =
    (t ≡ show_key s) ⊎ ((t ≡ Session s) ⊎
    ((m : Trial) × (m ∈ log) × (m.session ≡ s) × (p : Part) × (p ∈ true_parts m) × InPart h m p t))

in_secrets : (h s : ℕ) (log : List Trial) (t : Term) → t ∈ secrets h s log → Secret h s log t
unfolding made
in_secrets h s log t q = go (in_joined made (show_key s ∷ keys_of h s log) t q)
  where
    at_key : (k : Term) → t ∈ made k → KeyOf h s log k → Secret h s log t
    at_key k n (m, i, (e, (p, j, r))) =
        let n' = subst (λ (x : Term). t ∈ made x) (sym r) n in
        inr (inr (m, i, e, p, j, Memᴰ.cases_cons n'))

    at_show : t ∈ made (show_key s) → Secret h s log t
    at_show n = ⊎_elim inl (λ r. inr (inl (Memᴰ.eq_of_singleton r))) (Memᴰ.cases_cons n)

    go : (k : Term) × (k ∈ show_key s ∷ keys_of h s log) × (t ∈ made k) → Secret h s log t
    go (k, i, n) = ⊎_elim (λ e. at_show (subst (λ (x : Term). t ∈ made x) e n)) (λ r. at_key k n (in_keys h s log k r)) (Memᴰ.cases_cons i)

pub blind : Blind
unfolding world' block' made bytes
blind h log once own labels s none w real run value fresh = (
  world' c,
  o,
  (λ t m. renamed t (in_secrets h s log t m) ∙ new_is c t m),
  ap (λ (v : List (List ℕ)). asked (block' c) (run v)) o.sight ∙ r.0,
  ap (λ (v : List (List ℕ)). answer (block' c) (run v)) o.sight ∙ r.1,
)
  where
    have : List Term
    have = view own h log

    hide : List Term
    hide = secrets h s log

    c : Change
    c =
        record {
          old = w;
          real = real;
          height = h;
          log = log;
          draw = s;
          session = value (Session s);
          session_sized = fresh.sized (Session s);
          hide = hide;
          value = value;
          sized = fresh.sized;
          apart = fresh.apart;
          closed = all_made (show_key s ∷ keys_of h s log);
        }

    no_label : (t u : Term) → t ∈ own → t ≡ u → is_label u ≡ false → ⊥
    no_label t u m e f = both_ways (is_label t) (ap is_label e ∙ f) (T_true (is_label t) (labels t m))

    -- a label in hand that were to be hidden would open a header
    kept : (t : Term) → t ∈ own → Secret h s log t → ⊥
    kept t m (inl e) = no_label t (show_key s) m e refl
    kept t m (inr (inl e)) = no_label t (Session s) m e refl
    kept t m (inr (inr (n, i, e, p, j, q))) = ⊎_elim (λ e. no_label t (key n.tree h p) m e refl) (λ k. none (n, i, (e, (p, j, (t, m, k))))) q

    clear : (u : Term) → u ∈ hide → Clear c u
    clear u m t k = fresh.unused t u k (Memᴰ.append_left (flat_map made have) m)

    o : Other have s (value (Session s)) w (world' c)
    o = other c once own labels (λ t m k. kept t m (in_secrets h s log t k)) (λ u m t k. fresh.unused t u k (Memᴰ.append_right hide m))

    session_in : Session s ∈ hide
    session_in = there (here refl)

    key_in : (m : Trial) → m ∈ log → m.session ≡ s → (p : Part) → p ∈ true_parts m → (t : Term) → t ∈ made (key m.tree h p) → t ∈ hide
    key_in m k e p j t n = joined_in made (show_key s ∷ keys_of h s log) (key m.tree h p) t (there (keys_in_lem h s log m k e p j)) n

    session_new : bytes (world' c) (Session s) ≡ new c (Session s)
    session_new = o.session ∙ sym (new_is c (Session s) session_in)

    renamed : (t : Term) → Secret h s log t → bytes (world' c) t ≡ new c t
    renamed t (inl e) =
        subst (λ (x : Term). bytes (world' c) x ≡ new c x) (sym e)
        (ap (λ (x : List ℕ). take 32 (block' c x 1)) session_new ∙ new_middle c (Session s) (clear (Session s) session_in))
    renamed t (inr (inl e)) = subst (λ (x : Term). bytes (world' c) x ≡ new c x) (sym e) session_new
    renamed t (inr (inr (m, i, e, p, j, q))) =
        let l = label_of m.tree h p in
        let is = label_of_is m.tree h p in
        let in-hide = key_in m i e p j in
        ⊎_elim (λ r. subst (λ (x : Term). bytes (world' c) x ≡ new c x) (sym r) (middle_new c l is (λ u n. clear u (in-hide u (there n)))))
        (λ k. label_new c t (label_made l is t k) (λ u n. clear u (c.closed t u (in-hide t (there k)) n))) q

    -- no question was at a new value
    agree : (q : Point) → q ∈ asks w have run → block' c q.at q.counter ≡ w.block q.at q.counter
    agree q m =
        cond-false (opened c q.at q.counter) (xors (pick c hide q.at q.counter) (delta c)) (pick c hide q.at q.counter)
        (false_from_ne_true (opened c q.at q.counter) (λ e. unopened ((opens_at_decides (new c) h s log q.at q.counter).0 e)))
        ∙ pick_miss c hide q.at q.counter (λ t k. fresh.unasked t q k m)
      where
        unopened : OpensAt (new c) h s log q.at q.counter → ⊥
        unopened (n, k, (e, (_, (p, j, x)))) =
            let t = key n.tree h p in
            let i = key_in n k e p j t (made_self t) in
            fresh.unasked t q i m (sym (new_is c t i) ∙ sym x)

    r : (asked (block' c) (run (seen w have)) ≡ asks w have run) × (answer (block' c) (run (seen w have)) ≡ answers w have run)
    r = run_same w.block (block' c) (run (seen w have)) agree
