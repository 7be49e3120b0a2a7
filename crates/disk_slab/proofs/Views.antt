-- Views with equal parts are equal; what is shown of a running slab holds of a slab that no fault has stopped.
use Rattle.std.proofs.Common.{◌≡◌, ℕ, List, Some, None, Ok, Err, Option, Result, sym, refl}
use Rattle.std.proofs.Common.{Bor}
use Rattle.std.specs.Prelude.{MatchOption, MatchResult}
use Rattle.std.specs.Result.{result_ok, result_copied}
use Rattle.slab_log.specs.Sectors.{Sectors}
use Rattle.slab_log.specs.declared.size.Size.{Size}
use Rattle.slab_log.specs.declared.extent.Extent.{Extent}
use Rattle.slab_log.specs.declared.fault.Stop.{Stop}
use Rattle.slab_log.specs.declared.refusal.Refusal.{Refusal}
use Rattle.slab_log.specs.declared.refusal.Refusal.TheVariants.{Stopped}
use Rattle.store.specs.declared.log_store.LogStore.{Ghosts}
use Rattle.space.specs.Free.{free_in, Follows as Follows-in}
use Rattle.space.specs.declared.space.Space.{Space}
use Rattle.disk_slab.specs.Loaded.{Sized}
use Rattle.disk_slab.specs.View.{View, Running, running_view, stopped_view, running, seen}
use Rattle.disk_slab.specs.Answers.{Follows}
use Rattle.disk_slab.specs.Answers.Follows.{stopped, nothing, lowest}

pub same_running : {size size' capacity capacity' : ℕ} {words words' : List ℕ} {free free' : Sectors} →
    size ≡ size' → capacity ≡ capacity' → words ≡ words' → free ≡ free' →
    running_view size capacity words free ≡ running_view size' capacity' words' free'
same_running a b c d = λ i. running_view (a i) (b i) (c i) (d i)

module _ {S : Type 0} (G : Ghosts S) (size : Size) (loaded : Result Space Stop) (store : S) where
  -- what is seen of a slab that runs with a space, and of one that a fault has stopped
  pub seen_running : (space : Space) → loaded ≡ Ok space → Sized size loaded → seen G size loaded store ≡ running G space store
  seen_running space is sized = rw (is) (same_running (sym (sized space is)) refl refl refl)

  pub seen_stopped : (stop : Stop) → loaded ≡ Err stop → seen G size loaded store ≡ stopped_view size.sectors (G.capacity store) (G.words store) stop
  seen_stopped stop is = rw (is) refl

-- what follows in a space follows in a slab that runs with it
pub followed : (v : View) → Running v → (sector : ℕ) (r : Option Extent) → Follows-in v.free sector r → Follows v sector r
followed v on sector None none = nothing on none
followed v on sector (Some e) (run, from, lowest-one) = lowest on run from lowest-one

-- a slab's space or fault, as it is lent and asked for by `?`
pub lent_is : (loaded : Result Space Stop) (lent : Result (Bor Space) (Bor Stop)) → result_copied lent ≡ loaded → (asked : Result (Bor Space) Refusal) →
    MatchResult lent (λ x. asked ≡ Ok x) (λ e. asked ≡ Err (Stopped e.now)) →
    MatchResult asked (λ x. loaded ≡ Ok x.now) (λ r. (stop : Stop) × (loaded ≡ Err stop) × (r ≡ Stopped stop))
lent_is loaded (Ok x) is asked got = rw got (sym is)
lent_is loaded (Err e) is asked got = rw got (e.now, sym is, refl)

-- so the space that is lent, where there is one, says what follows in a slab
pub followed_lent : {S : Type 0} (G : Ghosts S) (size : Size) (loaded : Result Space Stop) (store : S) → Sized size loaded →
    (lent : Result (Bor Space) (Bor Stop)) → result_copied lent ≡ loaded → (o : Option (Bor Space)) → o ≡ result_ok lent → (sector : ℕ) (r : Option Extent) →
    MatchOption o (r ≡ None) (λ x. Follows-in (free_in x.now) sector r) → Follows (seen G size loaded store) sector r
followed_lent G size loaded store sized (Ok x) is o got sector r given =
    rw (seen_running G size loaded store x.now (sym is) sized) (followed (running G x.now store) refl sector r (rw got at given))
followed_lent G size loaded store sized (Err e) is o got sector r given =
    let none : r ≡ None = rw got at given in
    rw (seen_stopped G size loaded store e.now (sym is), none) (stopped refl)
