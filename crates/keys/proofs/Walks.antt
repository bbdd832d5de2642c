-- A walk down from a term: where it stands, and what was asked so far. Assumes nothing.
use Rattle.std.proofs.Common.{◌≡◌, ℕ, List, [], ◌∷◌, refl, ap, ◌∙◌}
use Rattle.secrecy.specs.Terms.{Term, side}
use Rattle.secrecy.specs.Worlds.{World, Point, bytes}
use Rattle.keys.specs.Asking.{point, Asked}
use Rattle.keys.specs.Down.{down, passed}
use Rattle.keys.specs.Promise.{points}

module _ {S : Type 0} (steps : S → Point → S → Type 0) (w : World) where
  -- on the way from t through all nodes, with `rest` of them ahead: `label` is that of a term from which the rest leads where the whole way leads,
  -- and the questions of the rest, after those that took the cipher from `first` to `here`, are those of the whole way
  pub record Along (all rest : List ℕ) (t : Term) (first here : S) (label : List ℕ) : Type 0 where
    pub term : Term
    pub is : label ≡ bytes w term
    pub leads : down rest term ≡ down all t
    pub asks : (last : S) → Asked steps here (points w 0 (passed rest term)) last → Asked steps first (points w 0 (passed all t)) last

  pub along_none : (all : List ℕ) (t : Term) (first : S) (label : List ℕ) → label ≡ bytes w t → Along all all t first first label
  along_none all t first label e = record { term = t; is = e; leads = refl; asks = λ last a. a }

  pub along_more : (all rest : List ℕ) (x : ℕ) (t : Term) (first here next : S) (label more : List ℕ) → Along all (x ∷ rest) t first here label → steps here (point label 0) next →
      ((u : Term) → label ≡ bytes w u → more ≡ bytes w (side x u)) → Along all rest t first next more
  along_more all rest x t first here next label more a step e =
      record {
        term = side x a.term;
        is = e a.term a.is;
        leads = a.leads;
        asks = λ last b. a.asks last (next, rw a.is at step, b);
      }

  pub along_all : (all : List ℕ) (t : Term) (first here : S) (label : List ℕ) → Along all [] t first here label →
      (label ≡ bytes w (down all t)) × Asked steps first (points w 0 (passed all t)) here
  along_all all t first here label a = (a.is ∙ ap (bytes w) a.leads, a.asks here refl)
