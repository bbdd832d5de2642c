-- What is kept of a term so that adding bit by bit adds it: whether it hides something, and which label it is. Assumes nothing.
use Rattle.std.proofs.Common.{◌≡◌, ℕ, zero, suc, ◌+◌, ◌*◌, ◌/◌, ◌%◌, ◌≤◌, Bool, true, false, cond, not, eqb, leb, sym, refl, ap, ◌∙◌, arith}
use lib.Bits.{bit_xor, xor_comm, xor_assoc, xor_self, xor_zero_l}
use Rattle.std.proofs.lemmas.Bool.{eq-eqb, ne_eqb, lt-leb, cond-true, cond-false}
use Rattle.secrecy.specs.Terms.{Term, Start, Left, Right, Middle, Pad, Check, Session, Noise, Xor, is_label, side}
use Rattle.secrecy.proofs.Made.{by_label}
use Rattle.secrecy.proofs.Labels.{root}

-- one of two, and not both
abbrev pub plus : Bool → Bool → Bool
plus true b = not b
plus false b = b

-- whether an odd number of hidden things are in it; and of a label (kind 1) its tree, its node and its steps from that node's start
pub record Sum : Type 0 where
  pub flag : Bool
  pub kind : ℕ
  pub tree : ℕ
  pub node : ℕ
  pub path : ℕ

abbrev pub add : Sum → Sum → Sum
add a b =
    record {
      flag = plus a.flag b.flag;
      kind = bit_xor a.kind b.kind;
      tree = bit_xor a.tree b.tree;
      node = bit_xor a.node b.node;
      path = bit_xor a.path b.path;
    }

-- of what is no label
abbrev pub only : Bool → Sum
only b = record { flag = b; kind = 0; tree = 0; node = 0; path = 0 }

make : {a b : Sum} → a.flag ≡ b.flag → a.kind ≡ b.kind → a.tree ≡ b.tree → a.node ≡ b.node → a.path ≡ b.path → a ≡ b
make p q r s t = λ i. record { flag = p i; kind = q i; tree = r i; node = s i; path = t i }

pub add_swap : (a b : Sum) → add a b ≡ add b a
add_swap a b =
    make (go a.flag b.flag) (xor_comm a.kind b.kind) (xor_comm a.tree b.tree) (xor_comm a.node b.node)
    (xor_comm a.path b.path)
  where
    go : (x y : Bool) → plus x y ≡ plus y x
    go x y = grind arith

pub add_group : (a b c : Sum) → add (add a b) c ≡ add a (add b c)
add_group a b c =
    make (go a.flag b.flag c.flag) (xor_assoc a.kind b.kind c.kind) (xor_assoc a.tree b.tree c.tree)
    (xor_assoc a.node b.node c.node) (xor_assoc a.path b.path c.path)
  where
    go : (x y z : Bool) → plus (plus x y) z ≡ plus x (plus y z)
    go x y z = grind arith

pub add_cancel : (a b : Sum) → add a (add a b) ≡ b
add_cancel a b =
    make (flags a.flag b.flag) (bits a.kind b.kind) (bits a.tree b.tree) (bits a.node b.node) (bits a.path b.path)
  where
    flags : (x y : Bool) → plus x (plus x y) ≡ y
    flags x y = grind arith

    bits : (x y : ℕ) → bit_xor x (bit_xor x y) ≡ y
    bits x y = sym (xor_assoc x x y) ∙ ap (λ (n : ℕ). bit_xor n y) (xor_self x) ∙ xor_zero_l y

-- the tree of a label
abbrev pub tree_of : Term → ℕ
tree_of (Start g i) = g
tree_of (Left t) = tree_of t
tree_of (Right t) = tree_of t
tree_of (Middle t) = 0
tree_of (Pad k n) = 0
tree_of (Check k n) = 0
tree_of (Session s) = 0
tree_of (Noise n i) = 0
tree_of (Xor a b) = 0

-- its steps, as a number: 1 at the start, then doubled for a step left, and doubled and one more for a step right
abbrev pub path_of : Term → ℕ
path_of (Start g i) = 1
path_of (Left t) = 2 * path_of t
path_of (Right t) = 2 * path_of t + 1
path_of (Middle t) = 0
path_of (Pad k n) = 0
path_of (Check k n) = 0
path_of (Session s) = 0
path_of (Noise n i) = 0
path_of (Xor a b) = 0

-- the label with these, of k steps at most
unfoldable pub walk : ℕ → ℕ → ℕ → ℕ → Term
walk zero g i c = Start g i
walk (suc k) g i c = cond (leb c 1) (Start g i) (side c (walk k g i (c / 2)))

abbrev pub label_at : ℕ → ℕ → ℕ → Term
label_at g i c = walk c g i c

-- with steps enough, how many does not matter
walk_fuel : (k l g i c : ℕ) → c ≤ k → c ≤ l → walk k g i c ≡ walk l g i c
unfolding walk
walk_fuel zero zero g i c a b = refl
walk_fuel zero (suc l) g i c a b = sym (cond-true (leb c 1) (Start g i) (side c (walk l g i (c / 2))) (grind arith))
walk_fuel (suc k) zero g i c a b = cond-true (leb c 1) (Start g i) (side c (walk k g i (c / 2))) (grind arith)
walk_fuel (suc k) (suc l) g i c a b =
    ap (λ (t : Term). cond (leb c 1) (Start g i) (side c t)) (walk_fuel k l g i (c / 2) (omega arith) (omega arith))

walk_down : (k g i c b : ℕ) → 1 ≤ b → c / 2 ≡ b → c ≤ k → walk k g i c ≡ side c (label_at g i b)
unfolding walk
walk_down zero g i c b pos e l = absurd (omega arith)
walk_down (suc k) g i c b pos e l =
    cond-false (leb c 1) (Start g i) (side c (walk k g i (c / 2))) (lt-leb c 1 (omega arith))
    ∙ ap (λ (n : ℕ). side c (walk k g i n)) e ∙ ap (side c) (walk_fuel k b g i b (omega arith) (omega arith))

pub at_left : (g i c : ℕ) → 1 ≤ c → label_at g i (2 * c) ≡ Left (label_at g i c)
at_left g i c pos =
    walk_down (2 * c) g i (2 * c) c pos (omega arith) (omega arith)
    ∙ cond-true (eqb ((2 * c) % 2) 0) (Left (label_at g i c)) (Right (label_at g i c)) (eq-eqb ((2 * c) % 2) 0 (omega arith))

pub at_right : (g i c : ℕ) → 1 ≤ c → label_at g i (2 * c + 1) ≡ Right (label_at g i c)
at_right g i c pos =
    walk_down (2 * c + 1) g i (2 * c + 1) c pos (omega arith) (omega arith)
    ∙ cond-false (eqb ((2 * c + 1) % 2) 0) (Left (label_at g i c)) (Right (label_at g i c)) (ne_eqb ((2 * c + 1) % 2) 0 (λ e. omega arith))

-- a label is the one with its tree, node and steps
pub at_label : (t : Term) → is_label t ≡ true → (1 ≤ path_of t) × (label_at (tree_of t) (root t) (path_of t) ≡ t)
unfolding walk
at_label =
    by_label (λ (t : Term). (1 ≤ path_of t) × (label_at (tree_of t) (root t) (path_of t) ≡ t)) (λ g i. (omega arith, refl))
    (λ t w. (omega (arith, w.0), at_left (tree_of t) (root t) (path_of t) w.0 ∙ ap Left w.1))
    (λ t w. (omega (arith, w.0), at_right (tree_of t) (root t) (path_of t) w.0 ∙ ap Right w.1))
