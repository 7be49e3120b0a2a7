-- Each word is counted once.
use Rattle.std.proofs.Common.{◌≡◌, length, ap, arith}
use Rattle.disk_slab.proofs.Counted.{sofar_none, sofar_more, sofar_all}
use Rattle.disk_slab.proofs.summary.tally_of.Goals as goal

pub loop-word-init : goal.loop-word-init
loop-word-init g c =
    let zero = c.default-tally.ensures in
    let none : c.default-tally.result ≡ record { allocating = 0; freeing = 0; debug = 0 } =
    λ i. record { allocating = zero.0 i; freeing = zero.1.0 i; debug = zero.1.1 i } in
    rw (none) (sofar_none _ _ (cc (c.of-word-items.ensures)))

pub count_word-requires : goal.count_word-requires
count_word-requires g c =
    let store = c.args.store.now in
    let s = c.loop-word.invariant in
    let long = ap length c.in-Some.ensures.steps in
    let bounded = g.S.LogStore.bounded store in
    let fits = g.S.LogStore.fits store in
    record {
      allocating = omega (arith, s.few_allocated);
      freeing = omega (arith, s.few_freed);
      debug = omega (arith, s.few_debugged);
    }

pub loop-word-preserved : goal.loop-word-preserved
loop-word-preserved g c = sofar_more _ _ _ c.in-Some.word c.loop-word.tally c.in-Some.ensures.steps c.loop-word.invariant _ c.count_word.ensures

pub returns : goal.returns
returns g c = sofar_all _ _ c.loop-word.tally c.in-None.ensures.steps.0 c.loop-word.invariant
