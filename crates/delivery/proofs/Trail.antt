-- The darts that a packet has sent: those of earlier rounds and walks, of the round at hand, and of the walk behind it
use Rattle.std.proofs.Common.{◌≡◌, ℕ, zero, suc, ◌+◌, ◌-◌, ◌*◌, ◌<◌, ◌≤◌, Bool, true, ◌⊎◌, List, [], ◌∷◌, ◌++◌, map, reverse, length, take, drop, sym, refl, ap, ◌∙◌, inl, inr, arith, length-drop, length-take}
use lib.ListN.{length-map, length-reverse}
use Rattle.floor.specs.Meaning.{Meaning}
use Rattle.floor.specs.Planar.{Blocks}
use Rattle.kept.specs.Kept.{kept_links}
use Rattle.orbit.specs.Walks.{In, steps, walk}
use Rattle.orbit.proofs.Walking.{steps_inside, take_walk, drop_walk}
use Rattle.orbit.proofs.Orbit.{Turning, face, face_is, size, length_face, face_has, face_at}
use Rattle.orbit.proofs.Rounds.{Follows}
use Rattle.orbit.proofs.Count.{bit, sends, count, count_append, count_map, count_reverse, count_take, count_drop, sent, Retraced}
use Rattle.orbit.proofs.Darts.{Dart, length_darts}
use Rattle.delivery.proofs.Ground.{keeps, size_of, twin, faces, Ground}
use Rattle.orbit.proofs.Past.{Past, opened, later, laps, sent_opened, sent_later, entry_in, start_in, to_entry, from_entry, in_round, in_walk, link_bound}
use Rattle.delivery.proofs.Entry.{Beyond}

-- one step more of a walk, at its end
pub count_more : {A : Type 0} (next : A → A) (q : A → Bool) (i : ℕ) (d : A) → count q (walk next (suc i) d) ≡ count q (walk next i d) + bit (q (steps next i d))
count_more next q zero d = omega arith
count_more next q (suc i) d = omega (arith, count_more next q i (next d))

module _ {b : Blocks} {m : Meaning} {s t : ℕ} (g : Ground b m s t) where
  open g use {rotation}

  abbrev pub F : Turning Dart
  F = faces rotation

  -- the dart i sends on from d
  abbrev pub at_step : ℕ → Dart → Dart
  at_step i d = steps F.next i d

  -- the number of darts of its face
  abbrev pub around : Dart → ℕ
  around d = size F d

  -- the first i darts of the round from d
  abbrev pub front : ℕ → Dart → List Dart
  front i d = walk F.next i d

  -- before the round that began with d, at the entry e
  abbrev pub History : Dart → Dart → Type 0
  History d e = Past F (Beyond g) g.beyond_trans twin d e

  -- the number of sends before, and the darts sent
  abbrev pub spent : {d e : Dart} → History d e → ℕ
  spent h = sends (laps F (Beyond g) g.beyond_trans twin h)

  abbrev pub earlier : {d e : Dart} → History d e → List Dart
  earlier h = sent (laps F (Beyond g) g.beyond_trans twin h)

  -- ---- darts of the round at hand
  pub entry_there : {d e : Dart} → History d e → In e F.all
  entry_there h = entry_in F (Beyond g) g.beyond_trans twin h

  pub start_there : {d e : Dart} → History d e → In d F.all
  start_there h = start_in F (Beyond g) g.beyond_trans twin h

  pub step_there : {d e : Dart} → History d e → (j : ℕ) → In (at_step j d) F.all
  step_there {d} h j = steps_inside F.next F.all F.closed j d (start_there h)

  pub on_entry : {d e : Dart} → History d e → (k : ℕ) → k < around d → In (at_step k d) (face F e)
  on_entry {d} h k l = to_entry F (Beyond g) g.beyond_trans twin h (at_step k d) (face_has F d k l)

  pub number_of : {d e : Dart} → History d e → (x : Dart) → In x (face F e) → (j : ℕ) × (j < around d) × (at_step j d ≡ x)
  number_of {d} h x i = face_at F d x (from_entry F (Beyond g) g.beyond_trans twin h x i)

  -- ---- the walk to the best, number k of the round
  abbrev pub way_ahead : Dart → ℕ → List Dart
  way_ahead d k = take k (face F d)

  abbrev pub way_back : Dart → ℕ → List Dart
  way_back d k = map twin (reverse (drop (suc k) (face F d)))

  module _ (d : Dart) (k : ℕ) (index : k < around d) where
    pub retraced_ahead : 2 * k < around d → Retraced twin (record { darts = face F d; walked = way_ahead d k })
    retraced_ahead l = (k, omega (arith, length_face F d), inl (refl, omega (arith, length_face F d)))

    pub retraced_back : 2 * (around d - suc k) < around d → Retraced twin (record { darts = face F d; walked = way_back d k })
    retraced_back l = (k, omega (arith, length_face F d), inr (refl, omega (arith, length_face F d)))

    pub length_ahead : length (way_ahead d k) ≡ k
    length_ahead = omega (arith, length-take k (face F d), length_face F d)

    pub length_back : length (way_back d k) ≡ around d - suc k
    length_back = omega (arith, length-map (reverse (drop (suc k) (face F d))) twin, length-reverse (drop (suc k) (face F d)), length-drop (suc k) (face F d), length_face F d)

  -- ---- the number of sends
  pub twice : length F.all ≡ 2 * kept_links b m
  twice = length_darts (keeps b m) (size_of m) ∙ ap (λ (n : ℕ). 2 * n) rotation.links_are

  pub round_below : {d e : Dart} (h : History d e) (i : ℕ) → i < around d → spent h + i < 3 * kept_links b m
  round_below h i l = in_round F (Beyond g) g.beyond_trans twin (kept_links b m) twice h i l

  pub walk_below : {d e : Dart} (h : History d e) (w : List Dart) (j : ℕ) → Retraced twin (record { darts = face F d; walked = w }) → j < length w → spent h + around d + j < 3 * kept_links b m
  walk_below h w j r l = in_walk F (Beyond g) g.beyond_trans twin (kept_links b m) twice h w j r l

  -- ---- the trail

  -- the darts sent, each as good as its twin, are those of the round at hand, those walked again behind it, and the earlier ones
  abbrev pub Tells : List Dart → List Dart → List Dart → {d e : Dart} → History d e → Type 0
  Tells trail now again h = (q : Dart → Bool) → ((x : Dart) → q (twin x) ≡ q x) → count q trail ≡ count q now + count q again + count q (earlier h)

  -- no link more than four times: q holds of the darts of one link
  abbrev pub AtMostFour : List Dart → Type 0
  AtMostFour trail = (q : Dart → Bool) (c e : Dart) → ((x : Dart) → q x ≡ true → (x ≡ c) ⊎ (x ≡ e)) → ((x : Dart) → q (twin x) ≡ q x) → count q trail ≤ 4

  pub tells_opened : (d e : Dart) (i : In e F.all) (o : In d (face F e)) → Tells [] [] [] (opened {d = d} {e = e} i o)
  tells_opened d e i o q both = omega (arith, ap (count q) (sent_opened F (Beyond g) g.beyond_trans twin d e i o))

  module _ {d e : Dart} (h : History d e) (trail : List Dart) where
    pub tells_round : (i : ℕ) → Tells trail (front i d) [] h → Tells (at_step i d ∷ trail) (front (suc i) d) [] h
    tells_round i t q both = omega (arith, t q both, count_more F.next q i d)

    pub tells_ahead : (now : List Dart) (j : ℕ) → Tells trail now (front j d) h → Tells (at_step j d ∷ trail) now (front (suc j) d) h
    tells_ahead now j t q both = omega (arith, t q both, count_more F.next q j d)

    pub tells_back : (now : List Dart) (j : ℕ) (x : Dart) → Tells trail now (front j (F.next x)) h → Tells (twin x ∷ trail) now (front (suc j) x) h
    tells_back now j x t q both = omega (arith, t q both, ap bit (both x))

    -- into a new round, behind the walk w
    pub tells_later : (c f : Dart) (again w : List Dart) → ((q : Dart → Bool) → ((x : Dart) → q (twin x) ≡ q x) → count q w ≡ count q again)
        → (l : Follows F (Beyond g) e f) (o : In c (face F f)) (r : Retraced twin (record { darts = face F d; walked = w }))
        → Tells trail (front (around d) d) again h → Tells trail [] [] (later {d = c} {e = f} h l o w r)
    tells_later c f again w same l o r t q both =
        omega (
          arith,
          t q both,
          same q both,
          ap (count q) (sent_later F (Beyond g) g.beyond_trans twin c f h l o w r),
          count_append q (front (around d) d) (w ++ earlier h),
          count_append q w (earlier h),
        )

    pub at_most_four : (i : ℕ) → i ≤ around d → (again : List Dart) → ((q : Dart → Bool) → count q again ≤ count q (front i d)) → Tells trail (front i d) again h → AtMostFour trail
    at_most_four i l again light t q c f only both =
        omega (arith, t q both, link_bound F (Beyond g) g.beyond_trans twin q c f only both h i l again (light q))

  -- what is walked again is part of the round
  pub ahead_again : (d : Dart) (k : ℕ) → k ≤ around d → way_ahead d k ≡ front k d
  ahead_again d k l = ap (take k) (face_is F d) ∙ take_walk F.next k (around d) d l

  pub front_light : (d : Dart) (k : ℕ) → k ≤ around d → (q : Dart → Bool) → count q (front k d) ≤ count q (front (around d) d)
  front_light d k l q = omega (arith, count_take q k (front (around d) d), ap (count q) (take_walk F.next k (around d) d l))

  rest : (d : Dart) (k j : ℕ) → k + j ≡ around d → drop k (front (around d) d) ≡ front j (at_step k d)
  rest d k j e = ap (λ (n : ℕ). drop k (front n d)) (sym e) ∙ drop_walk F.next k j d

  pub back_again : (d : Dart) (k j : ℕ) → suc k + j ≡ around d → (q : Dart → Bool) → ((x : Dart) → q (twin x) ≡ q x) → count q (way_back d k) ≡ count q (front j (at_step (suc k) d))
  back_again d k j e q both =
      count_map q twin both (reverse (drop (suc k) (face F d))) ∙ count_reverse q (drop (suc k) (face F d))
      ∙ ap (count q) (ap (drop (suc k)) (face_is F d) ∙ rest d (suc k) j e)

  pub rest_light : (d : Dart) (k j : ℕ) → k + j ≡ around d → (q : Dart → Bool) → count q (front j (at_step k d)) ≤ count q (front (around d) d)
  rest_light d k j e q = omega (arith, count_drop q k (front (around d) d), ap (count q) (rest d k j e))
