-- The front of a free extent is granted without a fault.
use Rattle.std.proofs.Common.{◌≡◌, ℕ, ◌+◌, ◌<◌, ◌≤◌, true, Ok, arith}
use Rattle.std.proofs.lemmas.Bool.Decides.{nat_tests}
use Rattle.slab_log.specs.Limits.{most_extents}
use Rattle.slab_log.specs.Sectors.{Within, used, runs}
use Rattle.slab_log.specs.Replay.{grant, granting}
use Rattle.slab_log.specs.Fit.{BestFit}
use Rattle.slab_log.proofs.Steps.{from_T, to_not_T, none_meets, run_ends}
use Rattle.slab_log.proofs.Counted.{grant_runs, run_begins}
use Rattle.space.specs.Free.{sectors_of, free_in}
use Rattle.space.specs.declared.space.Space.{Space}
use Rattle.space.proofs.Spaced.{free_past}
use Rattle.space.proofs.Spaces.{spaced_in, few_in, runs_in}
use Rattle.space.proofs.Meant.{granted}

pub within_in : (space : Space) → Within (sectors_of space) (free_in space)
within_in space s past = to_not_T (free_past 0 (sectors_of space) _ (spaced_in space) s past)

pub uncrowded_in : (space : Space) → runs (free_in space) (sectors_of space) ≤ most_extents
uncrowded_in space = omega (arith, few_in space, runs_in space)

-- the front of a free extent
pub front_granted : (space : Space) (want start len : ℕ) → 0 < want → BestFit (free_in space) want start len →
    granting (sectors_of space) (free_in space) start want ≡ Ok (grant (free_in space) start want)
front_granted space want start len some fit =
    let run = fit.extent in
    let enough = fit.enough in
    let ends = run_ends (sectors_of space) (free_in space) start len (within_in space) run in
    let all : (s : ℕ) → start ≤ s → s < start + want → free_in space s ≡ true = λ s p q. from_T (run.filled s p (omega arith)) in
    let fewer = grant_runs (free_in space) start want some all (run_begins (free_in space) start len run) (sectors_of space) in
    granted (sectors_of space) (free_in space) start want (omega arith)
    (none_meets (used (sectors_of space) (free_in space)) start want (λ s p q. let e = all s p q in grind (arith, nat_tests)))
    (omega (arith, uncrowded_in space))
