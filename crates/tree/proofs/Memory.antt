-- Lists written into lent memory, one behind the other. Assumes nothing.
use Rattle.std.proofs.Common.{◌≡◌, ℕ, ◌+◌, ◌-◌, ◌<◌, ◌≤◌, List, [], ◌++◌, length, get_or, take, drop, set, sym, ap, ◌∙◌, append_assoc, arith, length-append}
use borrow.Rule.Slice.PartMut.{put_mid}
use Rattle.std.proofs.lemmas.List.{append-nil, drop_all, drop_more, take_at, take_more, drop_at, take_rest, length-drop, length-take-le, drop-drop, set-append_right}
use Rattle.fault.specs.Memory.{over}

-- the second list is written into the free end that the first leaves
pub over_on : {A : Type 0} (xs ys memory mid end : List A) (n : ℕ) → n ≡ length xs → mid ≡ over xs memory →
    end ≡ over ys (take (length mid - n) (drop n mid)) → put_mid n (length mid - n) mid end ≡ over (xs ++ ys) memory
over_on xs ys memory mid end n en em ee =
    let rest : drop n mid ≡ drop n memory = ap (drop n) em ∙ drop_at xs (drop (length xs) memory) n (sym en) ∙ ap (λ (k : ℕ). drop k memory) (sym en) in
    let front : take n mid ≡ xs = ap (take n) em ∙ take_at xs (drop (length xs) memory) n (sym en) in
    let written : end ≡ ys ++ drop (n + length ys) memory = ee ∙ rw (take_rest mid n, rest, drop-drop) in
    let none : drop (length mid - n) (drop n mid) ≡ [] = drop_all (length mid - n) (drop n mid) (rw length-drop (omega arith)) in
    rw (front, none, append-nil, written, en, length-append) (sym (append_assoc xs ys (drop (length xs + length ys) memory)))

-- the second list is written right behind the first
pub over_at : {A : Type 0} (xs ys memory mid : List A) (n k : ℕ) → n ≡ length xs → k ≡ length ys → mid ≡ over xs memory → put_mid n k mid ys ≡ over (xs ++ ys) memory
over_at xs ys memory mid n k en ek em =
    let rest : drop n mid ≡ drop n memory = ap (drop n) em ∙ drop_at xs (drop (length xs) memory) n (sym en) ∙ ap (λ (j : ℕ). drop j memory) (sym en) in
    let front : take n mid ≡ xs = ap (take n) em ∙ take_at xs (drop (length xs) memory) n (sym en) in
    rw (front, rest, drop-drop, en, ek, length-append) (sym (append_assoc xs ys (drop (length xs + length ys) memory)))

-- the free end has so much room
pub room_on : {A : Type 0} (xs memory mid : List A) (n : ℕ) → n ≡ length xs → mid ≡ over xs memory → length (take (length mid - n) (drop n mid)) ≡ length memory - n
room_on xs memory mid n en em =
    rw (take_rest mid n, em, drop_at xs (drop (length xs) memory) n (sym en), length-drop, en)

pub length_over : {A : Type 0} (xs memory : List A) → length xs ≤ length memory → length (over xs memory) ≡ length memory
length_over xs memory l = rw (length-append, length-drop) (omega arith)

-- `&s[0..n]`, as the checker reads it
pub take_front : {A : Type 0} (xs : List A) (n : ℕ) → take (n - 0) xs ≡ take n xs
take_front xs n = ap (λ (k : ℕ). take k xs) {x = n - 0} {y = n} (omega arith)

-- a list that is written element by element
module _ {A : Type 0} (xs memory : List A) {out : List A} (i : ℕ) (so_far : out ≡ take i xs ++ drop i memory) where
  pub over_more : (d v : A) → i < length xs → i < length memory → v ≡ get_or xs i d → set out i v ≡ take (i + 1) xs ++ drop (i + 1) memory
  over_more d v l k e =
      let t = length-take-le i xs (omega arith) in
      let z : i - i ≡ 0 = omega arith in
      rw (so_far, set-append_right (take i xs) (drop i memory) i i v t (omega arith), z, drop_more memory i d k, take_more xs i d l, append_assoc, e)
