-- The free extent beside the run gives way to the grown one, where there is one, and where there are two the other is taken out.
use Rattle.std.proofs.Common.{◌+◌, ◌-◌, ◌<◌, ◌≤◌, sym, ap, ◌∙◌, subst, arith}
use Rattle.slab_log.specs.Sectors.{Run}
use Rattle.slab_log.specs.Replay.{grant, give_back}
use Rattle.space.specs.Free.{free_in}
use Rattle.space.specs.Tables.{Clear}
use Rattle.space.proofs.Emptied.{none_granted}
use Rattle.space.proofs.Joining.{right_stays, joined_clear, joined_is}
use Rattle.space.proofs.Spaced.{listed_run}
use Rattle.space.proofs.Spaces.{spaced_in, lies_in}
use Rattle.space.proofs.space.Space.grow.Goals as goal

pub exchange-requires-clause-held : goal.exchange-requires-clause-held
exchange-requires-clause-held c =
    let now = c.args.self.now in
    let run = c.args.run in
    let first = c.args.edges.first in
    let last = c.args.edges.last in
    let end = run.start + run.len in
    let h = spaced_in now in
    let left = c.requires.apart.left in
    let right = c.requires.apart.right in
    let none = c.requires.apart.unmet in
    let more : end < last = rw (c.end-end.ensures) at c.if-end-last.true in
    let stays = right_stays _ _ h run.start run.len first last run.some c.requires.fits none left right more in
    rw (c.end-end.ensures) (listed_run 0 _ _ (spaced_in c.take_end.new.self) end (last - end) (subst (λ f. Run f end (last - end)) (sym c.take_end.ensures.moved.sectors) stays))

pub exchange-requires-clause-within : goal.exchange-requires-clause-within
exchange-requires-clause-within c =
    let now = c.args.self.now in
    let run = c.args.run in
    let first = c.args.edges.first in
    let last = c.args.edges.last in
    let end = run.start + run.len in
    let h = spaced_in now in
    let left = c.requires.apart.left in
    let right = c.requires.apart.right in
    let none = c.requires.apart.unmet in
    let low = left.low in
    let high = right.high in
    let more : end < last = rw (c.end-end.ensures) at c.if-end-last.true in
    omega (arith, (lies_in now _ _ (right.listed more)).within, ap (λ z. z.sectors) c.take_end.ensures.moved.size)

pub exchange-requires-clause-clear : goal.exchange-requires-clause-clear
exchange-requires-clause-clear c =
    let now = c.args.self.now in
    let run = c.args.run in
    let first = c.args.edges.first in
    let last = c.args.edges.last in
    let end = run.start + run.len in
    let h = spaced_in now in
    let left = c.requires.apart.left in
    let right = c.requires.apart.right in
    let none = c.requires.apart.unmet in
    let clear = joined_clear _ _ h run.start run.len first last run.some c.requires.fits none left right in
    rw (c.end-end.ensures) (subst (λ f. Clear f first (last - first)) (sym (ap (λ f. grant f end (last - end)) c.take_end.ensures.moved.sectors)) clear)

pub returns-then-end-last : goal.returns-then-end-last
returns-then-end-last c =
    let now = c.args.self.now in
    let run = c.args.run in
    let first = c.args.edges.first in
    let last = c.args.edges.last in
    let end = run.start + run.len in
    let h = spaced_in now in
    let left = c.requires.apart.left in
    let right = c.requires.apart.right in
    let none = c.requires.apart.unmet in
    let is = joined_is _ _ h run.start run.len first last run.some c.requires.fits none left right in
    let sectors = rw (c.end-end.ensures) at c.exchange.ensures.moved.sectors in
    record {
      sectors = sectors ∙ (ap (λ f. give_back (grant f end (last - end)) first (last - first)) c.take_end.ensures.moved.sectors ∙ is);
      size = c.exchange.ensures.moved.size ∙ c.take_end.ensures.moved.size;
    }

pub exchange-requires-then-first-start-clause-clear : goal.exchange-requires-then-first-start-clause-clear
exchange-requires-then-first-start-clause-clear c =
    let now = c.args.self.now in
    let run = c.args.run in
    let first = c.args.edges.first in
    let last = c.args.edges.last in
    let end = run.start + run.len in
    let h = spaced_in now in
    let left = c.requires.apart.left in
    let right = c.requires.apart.right in
    let none = c.requires.apart.unmet in
    let ends : last ≤ end = rw (c.end-end.ensures) at c.if-end-last.false in
    let clear = joined_clear _ _ h run.start run.len first last run.some c.requires.fits none left right in
    subst (λ f. Clear f first (last - first)) (sym (none_granted (grant (free_in now) first (run.start - first)) end (last - end) (omega arith))) clear

pub returns-then-first-start : goal.returns-then-first-start
returns-then-first-start c =
    let now = c.args.self.now in
    let run = c.args.run in
    let first = c.args.edges.first in
    let last = c.args.edges.last in
    let end = run.start + run.len in
    let h = spaced_in now in
    let left = c.requires.apart.left in
    let right = c.requires.apart.right in
    let none = c.requires.apart.unmet in
    let ends : last ≤ end = rw (c.end-end.ensures) at c.if-end-last.false in
    let is = joined_is _ _ h run.start run.len first last run.some c.requires.fits none left right in
    let one = none_granted (grant (free_in now) first (run.start - first)) end (last - end) (omega arith) in
    record {
      sectors = c.exchange-then-first-start.ensures.moved.sectors ∙ (ap (λ f. give_back f first (last - first)) one ∙ is);
      size = c.exchange-then-first-start.ensures.moved.size;
    }

pub put_in-requires-clause-clear : goal.put_in-requires-clause-clear
put_in-requires-clause-clear c =
    let now = c.args.self.now in
    let run = c.args.run in
    let first = c.args.edges.first in
    let last = c.args.edges.last in
    let end = run.start + run.len in
    let h = spaced_in now in
    let left = c.requires.apart.left in
    let right = c.requires.apart.right in
    let none = c.requires.apart.unmet in
    let ends : last ≤ end = rw (c.end-end.ensures) at c.if-end-last.false in
    let clear = joined_clear _ _ h run.start run.len first last run.some c.requires.fits none left right in
    let one = none_granted (free_in now) first (run.start - first) (omega arith) in
    let two = none_granted (grant (free_in now) first (run.start - first)) end (last - end) (omega arith) in
    subst (λ f. Clear f first (last - first)) (sym (one ∙ two)) clear

pub returns-else-first-start : goal.returns-else-first-start
returns-else-first-start c =
    let now = c.args.self.now in
    let run = c.args.run in
    let first = c.args.edges.first in
    let last = c.args.edges.last in
    let end = run.start + run.len in
    let h = spaced_in now in
    let left = c.requires.apart.left in
    let right = c.requires.apart.right in
    let none = c.requires.apart.unmet in
    let ends : last ≤ end = rw (c.end-end.ensures) at c.if-end-last.false in
    let is = joined_is _ _ h run.start run.len first last run.some c.requires.fits none left right in
    let one = none_granted (free_in now) first (run.start - first) (omega arith) in
    let two = none_granted (grant (free_in now) first (run.start - first)) end (last - end) (omega arith) in
    record {
      sectors = c.put_in.ensures.moved.sectors ∙ (ap (λ f. give_back f first (last - first)) (one ∙ two) ∙ is);
      size = c.put_in.ensures.moved.size;
    }
