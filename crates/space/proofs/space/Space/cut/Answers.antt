-- What stays behind the run takes the place of the free extent, or that is taken out, and its two ends are put in again.
use Rattle.std.proofs.Common.{◌≡◌, ◌+◌, ◌-◌, ◌<◌, sym, ap, ◌∙◌, subst, inl, inr, arith}
use Rattle.std.proofs.lemmas.Bool.{cases_lt, and_parts, eqb-true, ltb-true}
use Rattle.slab_log.specs.Replay.{grant, give_back}
use Rattle.space.specs.Free.{free_in}
use Rattle.space.specs.Tables.{Clear}
use Rattle.space.proofs.Emptied.{none_given}
use Rattle.space.proofs.Spaces.{spaced_in, lies_in, few_in}
use Rattle.space.proofs.Cutting.{front_clear, back_clear, cut_is}
use Rattle.space.proofs.space.Space.cut.Goals as goal

pub exchange-requires-clause-within : goal.exchange-requires-clause-within
exchange-requires-clause-within c =
    omega (arith, (lies_in c.args.self.now _ _ c.requires.held.0).within, c.end.ensures, c.end-end.ensures, c.requires.held.2)

pub exchange-requires-clause-clear : goal.exchange-requires-clause-clear
exchange-requires-clause-clear c =
    let now = c.args.self.now in
    let k = c.args.holder.start in
    let v = c.args.holder.len in
    let run = c.args.run in
    let held = c.requires.held in
    let same : k ≡ run.start = eqb-true _ _ (and_parts _ _ c.if-holder-run.true).0 in
    let front : grant (free_in now) k v ≡ give_back (grant (free_in now) k v) k (run.start - k) = none_given _ _ _ (omega arith) in
    let some : 0 < c.end.result - c.end-end.result = ltb-true _ _ (and_parts _ _ c.if-holder-run.true).1 in
    let clear = back_clear _ _ (spaced_in now) k v held.0 run.start run.len run.some held.1 held.2 (omega (arith, some, c.end.ensures, c.end-end.ensures)) in
    rw (c.end-end.ensures, c.end.ensures) (subst (λ f. Clear f (run.start + run.len) ((k + v) - (run.start + run.len))) (sym front) clear)

pub returns-then-holder-run : goal.returns-then-holder-run
returns-then-holder-run c =
    let now = c.args.self.now in
    let k = c.args.holder.start in
    let v = c.args.holder.len in
    let run = c.args.run in
    let held = c.requires.held in
    let same : k ≡ run.start = eqb-true _ _ (and_parts _ _ c.if-holder-run.true).0 in
    let front : grant (free_in now) k v ≡ give_back (grant (free_in now) k v) k (run.start - k) = none_given _ _ _ (omega arith) in
    let is = cut_is _ _ (spaced_in now) k v held.0 run.start run.len run.some held.1 held.2 in
    let end = run.start + run.len in
    record {
      sectors = rw (c.end-end.ensures, c.end.ensures) at c.exchange.ensures.moved.sectors ∙ (ap (λ f. give_back f end ((k + v) - end)) front ∙ is);
      size = c.exchange.ensures.moved.size;
    }

pub put_end-requires : goal.put_end-requires
put_end-requires c =
    let now = c.args.self.now in
    let k = c.args.holder.start in
    let held = c.requires.held in
    let clear = front_clear _ _ (spaced_in now) k c.args.holder.len held.0 c.args.run.start c.args.run.len c.args.run.some held.1 held.2 in
    record {
      within = omega (arith, (lies_in now _ _ held.0).within, ap (λ z. z.sectors) c.take_out.ensures.moved.size, held.1, held.2);
      clear = λ one. subst (λ f. Clear f k (c.args.run.start - k)) (sym c.take_out.ensures.moved.sectors) (clear one);
      few = λ one. omega (arith, c.take_out.ensures.fewer, few_in now);
    }

pub put_end-requires-2 : goal.put_end-requires-2
put_end-requires-2 c =
    let now = c.args.self.now in
    let k = c.args.holder.start in
    let end = c.args.run.start + c.args.run.len in
    let held = c.requires.held in
    let clear = back_clear _ _ (spaced_in now) k c.args.holder.len held.0 c.args.run.start c.args.run.len c.args.run.some held.1 held.2 in
    let sectors = c.put_end.ensures.moved.sectors ∙ ap (λ f. give_back f k (c.args.run.start - k)) c.take_out.ensures.moved.sectors in
    rw (c.end-end.ensures, c.end.ensures) (record {
      within =
          omega (arith, (lies_in now _ _ held.0).within, held.2, ap (λ z. z.sectors) c.take_out.ensures.moved.size, ap (λ z. z.sectors) c.put_end.ensures.moved.size);
      clear = λ one. subst (λ f. Clear f end ((k + c.args.holder.len) - end)) (sym sectors) (clear one);
      few = λ one. elim (cases_lt k c.args.run.start) [
        | inl l ↦ omega (arith, c.put_end.ensures.more, c.take_out.ensures.fewer, c.requires.room l (omega arith))
        | inr l ↦ omega (arith, c.put_end.ensures.more, c.take_out.ensures.fewer, few_in now)
      ];
    })

pub returns : goal.returns
returns c =
    let now = c.args.self.now in
    let k = c.args.holder.start in
    let end = c.args.run.start + c.args.run.len in
    let held = c.requires.held in
    let is = cut_is _ _ (spaced_in now) k c.args.holder.len held.0 c.args.run.start c.args.run.len c.args.run.some held.1 held.2 in
    let sectors = c.put_end.ensures.moved.sectors ∙ ap (λ f. give_back f k (c.args.run.start - k)) c.take_out.ensures.moved.sectors in
    record {
      sectors = rw (c.end-end.ensures, c.end.ensures) at c.put_end-2.ensures.moved.sectors ∙ (ap (λ f. give_back f end ((k + c.args.holder.len) - end)) sectors ∙ is);
      size = c.put_end-2.ensures.moved.size ∙ (c.put_end.ensures.moved.size ∙ c.take_out.ensures.moved.size);
    }
