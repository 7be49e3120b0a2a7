-- Replay, word by word: what the words that are left do.
use Rattle.std.proofs.Common.{◌≡◌, ℕ, ◌+◌, List, [], ◌∷◌, Result, Ok, Err, sym, refl, ap, ◌∙◌}
use Rattle.std.specs.Prelude.{MatchResult}
use Rattle.slab_log.specs.Sectors.{Sectors, whole}
use Rattle.slab_log.specs.Words.{read}
use Rattle.slab_log.specs.Replay.{take_word, replay_from, replay}
use Rattle.slab_log.specs.declared.fault.Fault.{Fault}
use Rattle.slab_log.specs.declared.fault.Stop.{Stop}
use Rattle.space.specs.Free.{sectors_of, free_in, Changes}
use Rattle.space.specs.declared.space.Space.{Space}

module _ (n place : ℕ) (free : Sectors) (left : List ℕ) (w : ℕ) (rest : List ℕ) (next : left ≡ w ∷ rest) where
  word_done : (after : Sectors) → take_word n free (read w) ≡ Ok after → replay_from n place free left ≡ replay_from n (place + 1) after rest
  word_done after e = rw (next, e, replay_from)

  word_fails : (f : Fault) → take_word n free (read w) ≡ Err f → replay_from n place free left ≡ Err (record { fault = f; place = place })
  word_fails f e = rw (next, e, replay_from)

-- how far a replay has come, from a space with all sectors free
pub record Sofar (words : List ℕ) (new : Space) (place : ℕ) (left : List ℕ) (space : Space) : Type 0 where
  pub rest : replay_from (sectors_of space) place (free_in space) left ≡ replay (sectors_of new) words
  pub size : space.size ≡ new.size

pub begun : (words : List ℕ) (new : Space) (place : ℕ) (left : List ℕ) → place ≡ 0 → left ≡ words → free_in new ≡ whole (sectors_of new) → Sofar words new place left new
begun words new place left first all free = record { rest = rw (first, all, free) refl; size = refl }

-- one word more has been taken, or it has a fault, which ends the replay with its place
pub one_more : (words : List ℕ) (new : Space) (place next : ℕ) (left rest : List ℕ) (space after : Space) (w : ℕ) →
    Sofar words new place left space → left ≡ w ∷ rest → next ≡ place + 1 → (taken : Result (Unit {0}) Fault) (answer : Result (Unit {0}) Stop) →
    Changes space (take_word (sectors_of space) (free_in space) (read w)) after taken →
    MatchResult taken (λ x. answer ≡ Ok x) (λ f. answer ≡ Err (record { fault = f; place = place })) →
    MatchResult answer (λ _. Sofar words new next rest after) (λ stop. replay (sectors_of new) words ≡ Err stop)
one_more words new place next left rest space after w sofar cut further (Ok x) answer did is =
    rw is (record {
      rest = rw (further, ap (λ z. z.sectors) did.1) (sym (word_done (sectors_of space) place (free_in space) left w rest cut (free_in after) did.0) ∙ sofar.rest);
      size = did.1 ∙ sofar.size;
    })
one_more words new place next left rest space after w sofar cut further (Err f) answer did is =
    rw is (sym sofar.rest ∙ word_fails (sectors_of space) place (free_in space) left w rest cut f did.0)

pub all_done : (words : List ℕ) (new : Space) (place : ℕ) (left : List ℕ) (space : Space) → left ≡ [] → Sofar words new place left space → replay (sectors_of new) words ≡ Ok (free_in space)
all_done words new place left space none sofar = sym sofar.rest ∙ ap (replay_from (sectors_of space) place (free_in space)) none
