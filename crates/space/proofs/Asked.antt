-- The longest runs of free sectors of a space, as extents of its two tables.
use Rattle.std.proofs.Common.{◌≡◌, ℕ, ◌+◌, ◌≤◌, true, Some, None, Option, sym, refl, ◌∙◌, inl, inr, arith}
use Rattle.std.specs.Prelude.{MatchOption}
use Rattle.slab_log.specs.Limits.{most_sectors}
use Rattle.slab_log.specs.Sectors.{Run}
use Rattle.table.specs.declared.node.Entry.{Entry}
use Rattle.table.specs.declared.key.LengthKey.{LengthKey}
use Rattle.table.specs.Order.{shorter}
use Rattle.table.specs.Pairs.{has, from, first, last}
use Rattle.table.specs.Table.{pairs as starts}
use Rattle.table.specs.Table.{pairs as lengths}
use Rattle.space.specs.Extents.{in_list, span}
use Rattle.space.specs.Free.{sectors_of, free_in, Longest}
use Rattle.space.specs.declared.space.Space.{Space}
use Rattle.space.proofs.Spaced.{run_there, listed_run}
use Rattle.space.proofs.Searched.{Best, best_some, longest_some, longest_none}
use Rattle.space.proofs.Spaces.{spaced_in, lies_in, lengths_ordered}

module _ (space : Space) where
  pub run_in : (s l : ℕ) → in_list s l (starts space.by_start) ≡ true → Run (free_in space) s l
  run_in s l i = run_there 0 (sectors_of space) _ (spaced_in space) s l i

  pub listed_in : (s l : ℕ) → Run (free_in space) s l → in_list s l (starts space.by_start) ≡ true
  listed_in s l r = listed_run 0 (sectors_of space) _ (spaced_in space) s l r

  pub keyed_in : (s l : ℕ) → Run (free_in space) s l → has shorter (span s l) (lengths space.by_length) ≡ true
  keyed_in s l r = sym (space.twins s l) ∙ listed_in s l r

  pub listed_key : (k : LengthKey) → has shorter k (lengths space.by_length) ≡ true → in_list k.start k.len (starts space.by_start) ≡ true
  listed_key k h = space.twins k.start k.len ∙ h

  -- so a free extent is an extent of the product
  pub record Sized (start len : ℕ) : Type 0 where
    pub some : 1 ≤ len
    pub ends : start + len ≤ most_sectors

  pub sized : (s l : ℕ) → in_list s l (starts space.by_start) ≡ true → Sized s l
  sized s l i =
      let at = lies_in space s l i in
      record { some = at.some; ends = omega (arith, at.within, space.size.most) }

  -- the answers of the three searches
  pub best_in : (want : ℕ) (r : Option (Entry LengthKey (Unit {0}))) (e : Entry LengthKey (Unit {0})) → r ≡ first (from shorter (span 0 want) (lengths space.by_length)) → r ≡ Some e →
      Best (lengths space.by_length) want e.key
  best_in want r e found is = best_some want _ e (lengths_ordered space) (sym found ∙ is)

  pub longest_is : (r : Option (Entry LengthKey (Unit {0}))) → r ≡ last (lengths space.by_length) → (len : ℕ) →
      MatchOption r (len ≡ 0) (λ e. len ≡ e.key.len) → Longest (free_in space) len
  longest_is None found len is =
      rw is (record {
        most = λ s l run. absurd (longest_none _ (sym found) (span s l) (keyed_in s l run));
        there = inl refl;
      })
  longest_is (Some e) found len is =
      let k = longest_some _ e (lengths_ordered space) (sym found) in
      rw is (record {
        most = λ s l run. k.most s l (keyed_in s l run);
        there = inr (e.key.start, run_in _ _ (listed_key e.key k.listed));
      })
