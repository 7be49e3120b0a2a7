-- The runs of used sectors, walked one after the other: the words of those before a place, and of those from it on.
use Rattle.std.proofs.Common.{◌≡◌, ℕ, ◌+◌, ◌≤◌, List, [], ◌∷◌, ◌++◌, length, Some, None, sym, refl, ap, ◌∙◌, subst, inl, inr, append_assoc, append-nil, arith, length-append}
use Rattle.std.proofs.lemmas.Bool.{cases_order, cases_lt, both_ways}
use Rattle.slab_log.specs.Sectors.{Sectors, used}
use Rattle.slab_log.specs.Words.{words_of, entries}
use Rattle.slab_log.specs.Condensed.{RunsFrom, none, next, all_words, Condensed}
use Rattle.slab_log.specs.declared.entry.Effect.TheVariants.{Allocates}
use Rattle.slab_log.specs.declared.extent.Extent.{Extent}
use Rattle.slab_log.proofs.Unique.{head, same_length}
use Rattle.slab_log.proofs.Written.{words_length}
use Rattle.slab_log.proofs.Counted.{run_begins}
use Rattle.space.specs.Free.{Follows}
use Rattle.space.specs.Tables.{Passes}
use Rattle.space.proofs.InUse.{used_ends}

-- the runs from a place on, once the first of them is taken away
pub record Behind (set : Sectors) (e : Extent) (runs : List (ℕ × ℕ)) : Type 0 where
  pub rest : List (ℕ × ℕ)
  pub is : runs ≡ (e.start, e.length) ∷ rest
  pub more : RunsFrom set (e.start + e.length) rest

pub one_walked : (set : Sectors) (at : ℕ) (runs : List (ℕ × ℕ)) (e : Extent) → RunsFrom set at runs → Follows set at (Some e) → Behind set e runs
one_walked set at runs e (none h) f = absurd (h e.start f.1 (head set e.start e.length f.0))
one_walked set at runs e (next {start = start} {len = len} {rest = rest} ahead gap run more) f =
    let low : e.start ≤ start = f.2 start len run ahead in
    let same : start ≡ e.start =
    elim (cases_order start e.start) [
      | inl k ↦ k
      | inr (inl l) ↦ absurd (omega arith)
      | inr (inr l) ↦ absurd (gap e.start f.1 l (head set e.start e.length f.0))
    ] in
    let long : len ≡ e.length = same_length set start e.start len e.length same run f.0 in
    let end : start + len ≡ e.start + e.length = omega arith in
    record { rest = rest; is = cc; more = subst (λ k. RunsFrom set k rest) end more }

pub all_walked : (set : Sectors) (at : ℕ) (runs : List (ℕ × ℕ)) → RunsFrom set at runs → Follows set at None → runs ≡ []
all_walked set at runs (none h) f = refl
all_walked set at runs (next {start = start} {len = len} ahead gap run more) f = let before = f start len run in absurd (omega arith)

-- the words of the runs before a place have been written, and those of the runs from it on are left
pub record Walked (set : Sectors) (log : List ℕ) (at : ℕ) (done : List ℕ) : Type 0 where
  pub runs : List (ℕ × ℕ)
  pub from : RunsFrom set at runs
  pub whole : log ≡ done ++ all_words runs

pub walk_on : (set : Sectors) (log : List ℕ) (at : ℕ) (done : List ℕ) (e : Extent) → Walked set log at done → Follows set at (Some e) →
    Walked set log (e.start + e.length) (done ++ words_of Allocates e.start e.length)
walk_on set log at done e w f =
    let b = one_walked set at w.runs e w.from f in
    record {
      runs = b.rest;
      from = b.more;
      whole = w.whole ∙ (ap (λ r. done ++ all_words r) b.is ∙ sym (append_assoc done (words_of Allocates e.start e.length) (all_words b.rest)));
    }

pub walk_ends : (set : Sectors) (log : List ℕ) (at : ℕ) (done : List ℕ) → Walked set log at done → Follows set at None → log ≡ done
walk_ends set log at done w f = w.whole ∙ (ap (λ r. done ++ all_words r) (all_walked set at w.runs w.from f) ∙ append-nil done)

-- what is still to be written has places where the whole log has
pub walk_fits : (set : Sectors) (log : List ℕ) (at : ℕ) (done : List ℕ) (e : Extent) → Walked set log at done → Follows set at (Some e) →
    length done + length (words_of Allocates e.start e.length) ≤ length log
walk_fits set log at done e w f =
    let n = walk_on set log at done e w f in
    let long = ap length n.whole ∙ length-append (done ++ words_of Allocates e.start e.length) (all_words n.runs) in
    omega (arith, length-append done (words_of Allocates e.start e.length))

-- how many words have been written by then
pub record Numbered (set : Sectors) (log : List ℕ) (at n : ℕ) : Type 0 where
  pub done : List ℕ
  pub walked : Walked set log at done
  pub count : n ≡ length done

pub number_on : (set : Sectors) (log : List ℕ) (at n : ℕ) (e : Extent) → Numbered set log at n → Follows set at (Some e) →
    Numbered set log (e.start + e.length) (n + entries e.length)
number_on set log at n e m f =
    let new = words_of Allocates e.start e.length in
    record {
      done = m.done ++ new;
      walked = walk_on set log at m.done e m.walked f;
      count = omega (arith, m.count, length-append m.done new, words_length Allocates e.start e.length e.some);
    }

-- nothing changes up to where the next run begins
runs_past : (size : ℕ) (free : Sectors) (at to : ℕ) (runs : List (ℕ × ℕ)) → Passes size free at to → RunsFrom (used size free) at runs → RunsFrom (used size free) to runs
runs_past size free at to runs p (none h) = let low = p.low in none (λ s k. h s (omega arith))
runs_past size free at to runs p (next {start = start} {len = len} ahead gap run more) =
    let low = p.low in
    let past : to ≤ start =
    elim (cases_lt start to) [ inl k ↦ absurd (both_ways _ (p.quiet start ahead k) (run_begins (used size free) start len run)) | inr k ↦ k ] in
    next {start = start} {len = len} past (λ s k l. gap s (omega arith) l) run more

pub walk_past : (size : ℕ) (free : Sectors) (log : List ℕ) (at to : ℕ) (done : List ℕ) → Passes size free at to → Walked (used size free) log at done → Walked (used size free) log to done
walk_past size free log at to done p w = record { runs = w.runs; from = runs_past size free at to w.runs p w.from; whole = w.whole }

pub number_past : (size : ℕ) (free : Sectors) (log : List ℕ) (at to n : ℕ) → Passes size free at to → Numbered (used size free) log at n → Numbered (used size free) log to n
number_past size free log at to n p m = record { done = m.done; walked = walk_past size free log at to m.done p m.walked; count = m.count }

-- nothing has been written yet
pub walk_starts : (size : ℕ) (free : Sectors) (log : List ℕ) → Condensed size free log → Walked (used size free) log 0 []
walk_starts size free log c = record { runs = c.ranges; from = c.all; whole = c.written }

-- how far the condensed log has been written behind a list
pub record Writing (size : ℕ) (free : Sectors) (capacity : ℕ) (before : List ℕ) (needed at now-capacity : ℕ) (now : List ℕ) : Type 0 where
  pub log : List ℕ
  pub condensed : Condensed size free log
  pub count : needed ≡ length log
  pub fits : length before + length log ≤ capacity
  pub within : at ≤ size
  pub done : List ℕ
  pub walked : Walked (used size free) log at done
  pub words : now ≡ before ++ done
  pub kept : now-capacity ≡ capacity

pub write_past : (size : ℕ) (free : Sectors) (capacity : ℕ) (before : List ℕ) (needed at to now-capacity : ℕ) (now : List ℕ) → Passes size free at to →
    Writing size free capacity before needed at now-capacity now → Writing size free capacity before needed to now-capacity now
write_past size free capacity before needed at to now-capacity now p w =
    record {
      log = w.log;
      condensed = w.condensed;
      count = w.count;
      fits = w.fits;
      within = p.high;
      done = w.done;
      walked = walk_past size free w.log at to w.done p w.walked;
      words = w.words;
      kept = w.kept;
    }

module _ (size : ℕ) (free : Sectors) (capacity : ℕ) (before : List ℕ) (needed at now-capacity : ℕ) (now : List ℕ)
    (w : Writing size free capacity before needed at now-capacity now) (e : Extent) (f : Follows (used size free) at (Some e)) where
  pub write_fits : length now + length (words_of Allocates e.start e.length) ≤ now-capacity
  write_fits =
      let long = ap length w.words ∙ length-append before w.done in
      omega (arith, walk_fits (used size free) w.log at w.done e w.walked f, w.fits, w.kept)

  pub write_on : (after-capacity : ℕ) (after : List ℕ) → after-capacity ≡ now-capacity → after ≡ now ++ words_of Allocates e.start e.length →
      Writing size free capacity before needed (e.start + e.length) after-capacity after
  write_on after-capacity after same is =
      record {
        log = w.log;
        condensed = w.condensed;
        count = w.count;
        fits = w.fits;
        within = used_ends size free e.start e.length f.0;
        done = w.done ++ words_of Allocates e.start e.length;
        walked = walk_on (used size free) w.log at w.done e w.walked f;
        words = is ∙ (ap (λ l. l ++ words_of Allocates e.start e.length) w.words ∙ append_assoc before w.done (words_of Allocates e.start e.length));
        kept = same ∙ w.kept;
      }
