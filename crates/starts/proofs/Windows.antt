-- A part of a file, byte by byte, and what a piece more of the file makes of it. Assumes nothing.
use Rattle.std.proofs.Common.{◌≡◌, ℕ, ◌+◌, ◌-◌, ◌^◌, ◌<◌, ◌≤◌, min, max, ◌⊎◌, List, ◌++◌, length, get_or, take, drop, replicate, sym, refl, ap, ◌∙◌, inl, inr, arith}
use borrow.Rule.Slice.PartMut.{put_mid}
use Rattle.std.proofs.lemmas.List.{ext_get_or, get_or_append_left, get_or-append_right, get_or-drop, get_or_past, get_or-replicate, get_or-take, length-append, length-drop, length-replicate, length-take}
use Rattle.std.proofs.lemmas.Bool.{cases_lt}
use Rattle.tree.proofs.Memory.{length_over}
use Rattle.starts.specs.Window.{counted, window}

pub length_window : (b n : ℕ) (s : List ℕ) → length (window b n s) ≡ n
length_window b n s =
    length_over (take n (drop b s)) (replicate n 0) (rw (length-take, length-replicate) (omega arith)) ∙ length-replicate n 0

-- each byte is that of the file, or 0 past what was read
pub window_at : (b n : ℕ) (s : List ℕ) (k : ℕ) → k < n → get_or (window b n s) k 0 ≡ get_or s (b + k) 0
window_at b n s k l = go (cases_lt k (length (take n (drop b s))))
  where
    size : length (take n (drop b s)) ≡ min n (length s - b)
    size = length-take n (drop b s) ∙ ap (min n) (length-drop b s)

    rest : List ℕ
    rest = drop (length (take n (drop b s))) (replicate n 0)

    go : (k < length (take n (drop b s))) ⊎ (length (take n (drop b s)) ≤ k) → get_or (window b n s) k 0 ≡ get_or s (b + k) 0
    go (inl m) = get_or_append_left (take n (drop b s)) rest 0 k m ∙ get_or-take n (drop b s) k 0 l ∙ get_or-drop b s k 0
    go (inr m) =
        let e : length (take n (drop b s)) + (k - length (take n (drop b s))) < n = omega arith in
        get_or-append_right (take n (drop b s)) rest _ k 0 refl m ∙ get_or-drop _ (replicate n 0) _ 0 ∙ get_or-replicate n _ 0 0 e
        ∙ sym (get_or_past s (b + k) 0 (omega (arith, size)))

pub window_from : (b n : ℕ) (s out : List ℕ) → length out ≡ n → ((k : ℕ) → k < n → get_or out k 0 ≡ get_or s (b + k) 0) → out ≡ window b n s
window_from b n s out e f =
    ext_get_or 0 out (window b n s) (e ∙ sym (length_window b n s)) (λ k l. let m : k < n = omega arith in f k m ∙ sym (window_at b n s k m))

-- an element after a write to a part
module _ (xs ys : List ℕ) (a k : ℕ) (size : length ys ≡ k) (room : a + k ≤ length xs) where
  length_written : length (put_mid a k xs ys) ≡ length xs
  length_written = rw (length-append, length-append, length-take, length-drop, length-drop) (omega arith)

  before : (i : ℕ) → i < a → get_or (put_mid a k xs ys) i 0 ≡ get_or xs i 0
  before i l = get_or_append_left (take a xs) _ 0 i (rw length-take (omega arith)) ∙ get_or-take a xs i 0 l

  among : (i : ℕ) → a ≤ i → i < a + k → get_or (put_mid a k xs ys) i 0 ≡ get_or ys (i - a) 0
  among i l m = get_or-append_right (take a xs) _ a i 0 (rw length-take (omega arith)) l ∙ get_or_append_left ys _ 0 (i - a) (omega arith)

  behind : (i : ℕ) → a + k ≤ i → get_or (put_mid a k xs ys) i 0 ≡ get_or xs i 0
  behind i l =
      get_or-append_right (take a xs) _ a i 0 (rw length-take (omega arith)) (omega arith) ∙ get_or-append_right ys _ k (i - a) 0 size (omega arith)
      ∙ get_or-drop k (drop a xs) _ 0 ∙ get_or-drop a xs _ 0 ∙ ap (λ (j : ℕ). get_or xs j 0) {x = a + (k + (i - a - k))} {y = i} (omega arith)

-- a piece more, of which the window takes what lies between two places of the file
module _ (b n at : ℕ) (s p out : List ℕ) (low : b + n ≤ 2 ^ 63) (read : at ≡ counted s) (is : out ≡ window b n s) (from to : ℕ)
    (ef : from ≡ max b at) (et : to ≡ min (b + n) (at + length p)) where
  size : length out ≡ n
  size = ap length is ∙ length_window b n s

  old : (k : ℕ) → k < n → b + k < at → get_or out k 0 ≡ get_or (s ++ p) (b + k) 0
  old k l m = rw is (window_at b n s k l) ∙ sym (get_or_append_left s p 0 (b + k) (omega arith))

  past : (k : ℕ) → k < n → at + length p ≤ b + k → get_or out k 0 ≡ get_or (s ++ p) (b + k) 0
  past k l m = rw is (window_at b n s k l) ∙ get_or_past s (b + k) 0 (omega arith) ∙ sym (get_or_past (s ++ p) (b + k) 0 (rw length-append (omega arith)))

  pub touched : (ys : List ℕ) → ys ≡ take (to - at - (from - at)) (drop (from - at) p) → from < to →
      put_mid (from - b) (to - b - (from - b)) out ys ≡ window b n (s ++ p)
  touched ys is-part some = window_from b n (s ++ p) _ (length_written out ys _ _ part_size room ∙ size) at_place
    where
      part_size : length ys ≡ to - b - (from - b)
      part_size = ap length is-part ∙ rw (length-take, length-drop) (omega arith)

      room : from - b + (to - b - (from - b)) ≤ length out
      room = omega (arith, size)

      at_place : (k : ℕ) → k < n → get_or (put_mid (from - b) (to - b - (from - b)) out ys) k 0 ≡ get_or (s ++ p) (b + k) 0
      at_place k l = go (cases_lt k (from - b)) (cases_lt k (to - b))
        where
          go : (k < from - b) ⊎ (from - b ≤ k) → (k < to - b) ⊎ (to - b ≤ k) →
              get_or (put_mid (from - b) (to - b - (from - b)) out ys) k 0 ≡ get_or (s ++ p) (b + k) 0
          go (inl m) q = before out ys _ _ part_size room k m ∙ old k l (omega arith)
          go (inr m) (inl q) =
              among out ys _ _ part_size room k m (omega arith) ∙ rw is-part (get_or-take _ (drop (from - at) p) _ 0 (omega arith)) ∙ get_or-drop (from - at) p _ 0
              ∙ ap (λ (j : ℕ). get_or p j 0) {x = from - at + (k - (from - b))} {y = b + k - at} (omega arith) ∙ sym (get_or-append_right s p at (b + k) 0 (omega arith) (omega arith))
          go (inr m) (inr q) = behind out ys _ _ part_size room k (omega arith) ∙ past k l (omega arith)

-- filled by its length
pub window_filled : (b n : ℕ) (s p out new : List ℕ) → out ≡ window b n s → (out ≡ window b (length out) s → new ≡ window b (length out) (s ++ p)) → new ≡ window b n (s ++ p)
window_filled b n s p out new is filled =
    let size : length out ≡ n = ap length is ∙ length_window b n s in
    filled (is ∙ ap (λ (m : ℕ). window b m s) (sym size)) ∙ ap (λ (m : ℕ). window b m (s ++ p)) size
