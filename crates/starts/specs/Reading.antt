-- How far a file of starts was read, and what is kept of it. Assumes nothing.
use Rattle.std.specs.Prelude.{◌≡◌, ℕ, T, List, [], vec_items, slice_index_or}
use Rattle.std.specs.List.{All}
use Rattle.fault.specs.Lowest.{lowest}
use Rattle.tree.specs.Receivers.{rising, list_faults}
use Rattle.starts.specs.declared.reader.StartsReader.{StartsReader}
use Rattle.starts.specs.declared.table.Starts.{Starts}
use Rattle.starts.specs.Format.{start_in, starts_faults}
use Rattle.starts.specs.Kept.{KeptNodes}
use Rattle.starts.specs.Window.{counted, window, AsRead, nodes_of, Complete}

-- the bytes s were read for the receivers us of a tree of height h
pub record HasRead (h : ℕ) (us s : List ℕ) (r : StartsReader) : Type 0 where
  pub height : r.height ≡ h
  pub asked : r.asked ≡ lowest (list_faults h us)
  pub nodes : list_faults h us ≡ [] → KeptNodes h us (nodes_of (vec_items r.starts))
  pub rises : T (rising (nodes_of (vec_items r.starts)))
  pub head : r.head ≡ window 0 2 s
  pub starts : All (AsRead s) (vec_items r.starts)
  pub at : r.at ≡ counted s
  pub done : Complete r.done (nodes_of (vec_items r.starts)) s

-- of the file of starts s, those are there that are kept for the receivers us of a tree of height h
pub record HasStarts (h : ℕ) (us s : List ℕ) (t : Starts) : Type 0 where
  pub height : t.height ≡ h
  pub faultless : starts_faults s ≡ []
  pub same : slice_index_or s 1 0 ≡ h
  pub sound : list_faults h us ≡ []
  pub nodes : KeptNodes h us (nodes_of (vec_items t.starts))
  pub starts : All (λ start. start.bytes ≡ start_in s start.node) (vec_items t.starts)
