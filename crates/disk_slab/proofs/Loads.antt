-- A slab that runs after a call: its space has the size, and its log replays to its free sectors, where the call keeps both.
use Rattle.std.proofs.Common.{◌≡◌, ℕ, List, Ok, Err, Result, sym, refl, ap, ◌∙◌, subst, arith}
use Rattle.slab_log.specs.Replay.{replay}
use Rattle.slab_log.specs.declared.fault.Stop.{Stop}
use Rattle.slab_log.specs.declared.size.Size.{Size}
use Rattle.store.specs.declared.log_store.LogStore.{Ghosts}
use Rattle.space.specs.Free.{sectors_of, free_in}
use Rattle.space.specs.declared.space.Space.{Space}
use Rattle.disk_slab.specs.Loaded.{Sized, Replayed}
use Rattle.disk_slab.specs.View.{View, Sound, running, seen, view}
use Rattle.disk_slab.specs.declared.state.Live.{Live}

pub sized_on : (size : Size) (after : Space) → sectors_of after ≡ size.sectors → Sized size (Ok after)
sized_on size after same space is = let k : after ≡ space = cc in ap sectors_of (sym k) ∙ same

pub replayed_on : (size : Size) (after : Space) (words : List ℕ) → replay size.sectors words ≡ Ok (free_in after) → Replayed size (Ok after) words
replayed_on size after words lead space is = let k : after ≡ space = cc in lead ∙ ap (λ s. Ok (free_in s)) k

-- so the log of every live slab replays to its free sectors, while no fault has stopped it
pub live_sound : {S : Type 0} (G : Ghosts S) (slab : Live S G) → Sound (view G slab)
live_sound G slab = go slab.space refl
  where
    go : (loaded : Result Space Stop) → slab.space ≡ loaded → Sound (seen G slab.size loaded slab.store)
    go (Ok space) is on = slab.sound space is
    go (Err stop) is on = let z : ◌≡◌ {A = ℕ} 0 1 = cc in absurd (omega arith)

module _ {S : Type 0} (G : Ghosts S) (size : Size) (loaded : Result Space Stop) (store : S) (space : Space) (is : loaded ≡ Ok space) (sized : Sized size loaded) where
  pub sound_before : Replayed size loaded (G.words store) → Sound (running G space store)
  sound_before lead on = rw (sized space is) (lead space is)

  -- what is seen after a call that leaves this view
  module _ (after : Space) (last : S) (v : View) (leaves : running G after last ≡ v) (same : v.size ≡ sectors_of space) where
    pub sized_after : Sized size (Ok after)
    sized_after = sized_on size after (ap (λ w. w.size) leaves ∙ same ∙ sized space is)

    pub replayed_after : Sound v → Replayed size (Ok after) (G.words last)
    replayed_after sound =
        let lead : replay (sectors_of after) (G.words last) ≡ Ok (free_in after) = subst Sound (sym leaves) sound refl in
        replayed_on size after (G.words last) (rw (sym (ap (λ w. w.size) leaves ∙ same ∙ sized space is)) lead)
