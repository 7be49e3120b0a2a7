-- Values with equal numbers are equal, whatever shows their invariants.
use mathlib.Core.HLevel.{is_prop→PathP}
use Rattle.std.proofs.Common.{◌≡◌, ◌^◌, ◌<◌, ◌≤◌}
use native.Mathlib.Bridge.{le_prop}
use Rattle.slab_log.specs.Limits.{longest_run}
use Rattle.slab_log.specs.declared.entry.Span.{Span}

pub same_span : (a b : Span) → a.offset ≡ b.offset → a.run ≡ b.run → a ≡ b
same_span a b p q =
    λ i. record {
      offset = p i;
      run = q i;
      low = is_prop→PathP (λ j. p j < 2 ^ 47) (λ j. le_prop) a.low b.low i;
      some = is_prop→PathP (λ j. 1 ≤ q j) (λ j. le_prop) a.some b.some i;
      most = is_prop→PathP (λ j. q j ≤ longest_run) (λ j. le_prop) a.most b.most i;
    }
