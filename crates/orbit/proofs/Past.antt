-- The closed rounds before the one at hand: each began with a dart of the face of its entry, and has a walk behind it
use mathlib.Core.Path.{◌≡◌, refl, ap}
use mathlib.Core.Bool.{Bool, true}
use mathlib.Core.List.{List, [], ◌∷◌, ◌++◌}
use mathlib.Core.Logic.{◌⊎◌}
use Prim.Native.Nat.{ℕ, suc, ◌+◌, ◌*◌, ◌≤◌, ◌<◌}
use native.Mathlib.Omega.{arith}
use lib.ListN.{length}
use Rattle.orbit.specs.Walks.{In, Inside, Apart, walk}
use Rattle.orbit.proofs.Sets.{Away, Scattered, Within}
use Rattle.orbit.proofs.Walking.{length_walk}
use Rattle.orbit.proofs.Orbit.{Turning, face, face_is, size, length_face, face_inside, face_apart, face_same, front_apart, front_inside}
use Rattle.orbit.proofs.Rounds.{Follows, Starts, faces, rounds_scattered}
use Rattle.orbit.proofs.Count.{Lap, rounds, sends, Short, count, count_append, sent, Light, Retraced, retraced_short, retraced_light, sends_in_round, sends_in_walk, link_at_most}

module _ {A : Type 0} (p : Turning A) (Beyond : A → A → Type 0) (trans : (x y z : A) → Beyond x y → Beyond y z → Beyond x z) (twin : A → A) where
  open p use {all, next}

  abbrev pub lap : A → List A → Lap A
  lap d w = record { darts = face p d; walked = w }

  -- before the round that begins with d, on the face of the entry e; the latest round first
  pub data Past : A → A → Type 0 where
    opened : {d e : A} → In e all → In d (face p e) → Past d e
    later : {c f d e : A} → Past c f → Follows p Beyond f e → In d (face p e) → (w : List A) → Retraced twin (lap c w) → Past d e

  unfoldable pub laps : {d e : A} → Past d e → List (Lap A)
  laps (opened i o) = []
  laps (later {c = c} s f o w r) = lap c w ∷ laps s

  pub sends_opened : (d e : A) (i : In e all) (o : In d (face p e)) → sends (laps (opened {d = d} {e = e} i o)) ≡ 0
  unfolding laps
  sends_opened d e i o = refl

  pub sends_later : {c f : A} (d e : A) (s : Past c f) (h : Follows p Beyond f e) (o : In d (face p e)) (w : List A) (r : Retraced twin (lap c w))
      → sends (laps (later {d = d} {e = e} s h o w r)) ≡ size p c + length w + sends (laps s)
  unfolding laps
  sends_later {c} d e s h o w r = ap (λ (n : ℕ). n + length w + sends (laps s)) (length_face p c)

  pub sent_opened : (d e : A) (i : In e all) (o : In d (face p e)) → sent (laps (opened {d = d} {e = e} i o)) ≡ []
  unfolding laps
  sent_opened d e i o = refl

  pub sent_later : {c f : A} (d e : A) (s : Past c f) (h : Follows p Beyond f e) (o : In d (face p e)) (w : List A) (r : Retraced twin (lap c w))
      → sent (laps (later {d = d} {e = e} s h o w r)) ≡ walk next (size p c) c ++ (w ++ sent (laps s))
  unfolding laps
  sent_later {c} d e s h o w r = ap (λ (l : List A). l ++ (w ++ sent (laps s))) (face_is p c)

  pub entry_in : {d e : A} → Past d e → In e all
  entry_in (opened i o) = i
  entry_in (later s f o w r) = f.there

  pub start_on : {d e : A} → Past d e → In d (face p e)
  start_on (opened i o) = o
  start_on (later s f o w r) = o

  pub start_in : {d e : A} → Past d e → In d all
  start_in {d} {e} s = face_inside p e (entry_in s) d (start_on s)

  -- the face of the first dart is the face of the entry
  pub to_entry : {d e : A} → Past d e → Inside (face p d) (face p e)
  to_entry {d} {e} s x i = (face_same p e d (entry_in s) (start_on s) x).1 i

  pub from_entry : {d e : A} → Past d e → Inside (face p e) (face p d)
  from_entry {d} {e} s x i = (face_same p e d (entry_in s) (start_on s) x).0 i

  -- ---- rounds have nothing in common
  entries : {d e : A} → Past d e → List A
  entries (opened i o) = []
  entries (later {f = f} s h o w r) = f ∷ entries s

  chain : {d e : A} (s : Past d e) → Starts p Beyond e (entries s)
  unfolding entries
  chain (opened i o) = i
  chain (later s h o w r) = (h, chain s)

  away : (q r : List A) {d e : A} (s : Past d e) → Inside r q → Away q (faces p (entries s)) → Away r (rounds (laps s))
  unfolding entries laps
  away q r (opened i o) h u = tt
  away q r (later s f o w t) h (d, u) = (λ x i j. d x (h x i) (to_entry s x j), away q r s h u)

  apart_from : (r : List A) {d e : A} (s : Past d e) → Apart r → Inside r (face p e) → Scattered (r ∷ rounds (laps s))
  unfolding entries laps
  apart_from r (opened i o) a h = (a, tt, tt)
  apart_from r {e = e} (later {c = c} s f o w t) a h = (
    a,
    away (face p e) r (later s f o w t) h (rounds_scattered p Beyond trans e (entries (later s f o w t)) (chain (later s f o w t))).1,
    apart_from (face p c) s (face_apart p c (start_in s)) (to_entry s),
  )

  among : (r : List A) {d e : A} (s : Past d e) → Inside r (face p e) → Within (r ∷ rounds (laps s)) all
  unfolding laps
  among r {e = e} (opened i o) h = (λ x j. face_inside p e i x (h x j), tt)
  among r {e = e} (later {c = c} s f o w t) h = (λ x j. face_inside p e f.there x (h x j), among (face p c) s (to_entry s))

  -- RUNS NEVER REPEAT A DART IN THEIR ROUNDS: i darts of the round at hand, and all the rounds before
  pub front_apart_from : {d e : A} (s : Past d e) (i : ℕ) → i ≤ size p d → Scattered (walk next i d ∷ rounds (laps s))
  front_apart_from {d} s i l = apart_from (walk next i d) s (front_apart p d i (start_in s) l) (λ x j. to_entry s x (front_inside p d i l x j))

  front_among : {d e : A} (s : Past d e) (i : ℕ) → i ≤ size p d → Within (walk next i d ∷ rounds (laps s)) all
  front_among {d} s i l = among (walk next i d) s (λ x j. to_entry s x (front_inside p d i l x j))

  pub round_apart_from : {d e : A} (s : Past d e) → Scattered (face p d ∷ rounds (laps s))
  round_apart_from {d} s = apart_from (face p d) s (face_apart p d (start_in s)) (to_entry s)

  all_short : {d e : A} (s : Past d e) → Short (laps s)
  unfolding laps
  all_short (opened i o) = tt
  all_short (later {c = c} s f o w r) = (retraced_short twin (lap c w) r, all_short s)

  all_light : (q : A → Bool) → ((x : A) → q (twin x) ≡ q x) → {d e : A} (s : Past d e) → Light q (laps s)
  unfolding laps
  all_light q h (opened i o) = tt
  all_light q h (later {c = c} s f o w r) = (retraced_light twin q h (lap c w) r, all_light q h s)

  -- ---- BELOW 3·K
  module _ (k : ℕ) (twice : length all ≡ 2 * k) where
    -- while a round is under way: i of its darts were sent, and it is not closed
    pub in_round : {d e : A} (s : Past d e) (i : ℕ) → i < size p d → sends (laps s) + i < 3 * k
    in_round {d} s i l = omega (
      arith,
      length_walk next (suc i) d,
      sends_in_round all k twice (walk next (suc i) d) (laps s) (omega (arith, length_walk next (suc i) d)) (front_apart_from s (suc i) l) (front_among s (suc i) l) (all_short s),
    )

    -- and while the walk behind it is
    pub in_walk : {d e : A} (s : Past d e) (w : List A) (j : ℕ) → Retraced twin (lap d w) → j < length w → sends (laps s) + size p d + j < 3 * k
    in_walk {d} s w j r l = omega (
      arith,
      length_face p d,
      sends_in_walk all k twice (lap d w) (laps s) j l (round_apart_from s) (among (face p d) s (to_entry s)) (retraced_short twin (lap d w) r, all_short s),
    )

  -- ---- NO LINK MORE THAN FOUR TIMES: i darts of the round at hand, and a walk w behind it that is no heavier
  pub link_bound : (q : A → Bool) (c e : A) → ((x : A) → q x ≡ true → (x ≡ c) ⊎ (x ≡ e)) → ((x : A) → q (twin x) ≡ q x)
      → {d f : A} (s : Past d f) (i : ℕ) → i ≤ size p d → (w : List A) → count q w ≤ count q (walk next i d)
      → count q (walk next i d) + count q w + count q (sent (laps s)) ≤ 4
  link_bound q c e only both {d} s i l w light =
      omega (
        arith,
        count_append q (walk next i d) (w ++ sent (laps s)),
        count_append q w (sent (laps s)),
        link_at_most q c e only (record { darts = walk next i d; walked = w } ∷ laps s) (front_apart_from s i l) (light, all_light q both s),
      )
