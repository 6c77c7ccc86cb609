-- A packet's record when it is opened
use Rattle.std.proofs.Common.{◌≡◌, ℕ, Bool, true, false, cond, ◌⊎◌, [], Some, None, Option, sym, refl, ap, ◌∙◌, subst, ap₂, inl, inr, true≢false, arith, eq-eqb, ne_eqb}
use Rattle.plane.specs.Plane.{way}
use Rattle.order.specs.declared.Place.{Place}
use Rattle.order.specs.declared.Sense.TheVariants.{Clockwise}
use Rattle.order.specs.declared.Start.TheVariants.{NoTurn}
use Rattle.floor.specs.declared.node.Node.{Node}
use Rattle.floor.specs.declared.node.Radio.{Radio}
use Rattle.floor.specs.Meaning.{Meaning, here, radio, place_of, node, known_as, neighbours}
use Rattle.floor.specs.Planar.{Blocks}
use Rattle.kept.specs.Kept.{first_round}
use Rattle.face.specs.declared.record.Record.{Record}
use Rattle.face.specs.declared.record.End.TheVariants.{Delivered}
use Rattle.face.specs.Packet.{opened_ended, opened_to, opened_at, opened_between, opening}
use Rattle.orbit.specs.Walks.{In}
use Rattle.orbit.proofs.Orbit.{face, face_round, face_start}
use Rattle.orbit.proofs.Darts.{Dart}
use Rattle.delivery.proofs.Ground.{point_or_zero, nd, pt, near, keeps, twin, spot, or_source, Ground}
use Rattle.orbit.proofs.Past.{opened, sends_opened}
use Rattle.delivery.proofs.BestSoFar.{round_course, best_none}
use Rattle.delivery.proofs.Sends.{going}
use Rattle.delivery.proofs.Entry.{dart_in, Beyond}
use Rattle.delivery.proofs.Trail.{F, tells_opened}
use Rattle.delivery.proofs.States.{Legit, rounding, Stands}

known_or_none : (m : Meaning) (i : ℕ) → (node m i ≡ None) ⊎ (node m i ≡ Some (nd m i))
known_or_none m i = go (radio m i)
  where
    go : (o : Option Radio) → (known_as i o ≡ None) ⊎ (known_as i o ≡ Some (record { number = i; point = point_or_zero (place_of o) }))
    go None = inl refl
    go (Some p) = inr refl

module _ (b : Blocks) (m : Meaning) (s t : ℕ) where
  -- what opening answers, where it answers
  pub opened_is : (r : Record) → opening b m s t ≡ Some r → r ≡ opened_at b (nd m s) (nd m t) (neighbours m s)
  opened_is r e = go (known_or_none m s) (known_or_none m t)
    where
      go : (node m s ≡ None) ⊎ (node m s ≡ Some (nd m s)) → (node m t ≡ None) ⊎ (node m t ≡ Some (nd m t)) → r ≡ opened_at b (nd m s) (nd m t) (neighbours m s)
      go (inl p) q = let none : None ≡ Some r = ap (λ (o : Option Node). opened_between b o (node m t) (neighbours m s)) (sym p) ∙ e in cc
      go (inr p) (inl q) =
          let none : None ≡ Some r = ap₂ (λ (o w : Option Node). opened_between b o w (neighbours m s)) (sym p) (sym q) ∙ e in cc
      go (inr p) (inr q) =
          let some : Some (opened_at b (nd m s) (nd m t) (neighbours m s)) ≡ Some r = ap₂ (λ (o w : Option Node). opened_between b o w (neighbours m s)) (sym p) (sym q) ∙ e in cc

  -- the neighbour that the first link goes to
  abbrev first : Option Node
  first = first_round Clockwise NoTurn (pt m s) (way (pt m s) (pt m t)) (near b m s)

  opened_by : (u : Bool) → Record
  opened_by u = cond u (opened_ended (nd m s) (nd m t) Delivered) (opened_to (nd m s) (nd m t) first)

  pub opened_home : s ≡ t → opened_at b (nd m s) (nd m t) (neighbours m s) ≡ opened_ended (nd m s) (nd m t) Delivered
  unfolding opened_by
  opened_home same = ap opened_by (eq-eqb s t same)

  opened_away : ¬ (s ≡ t) → opened_at b (nd m s) (nd m t) (neighbours m s) ≡ opened_to (nd m s) (nd m t) first
  unfolding opened_by
  opened_away apart = ap opened_by (ne_eqb s t apart)

  -- s and t differ: the first link of the first round is in hand, or s has no kept link
  pub opens_rightly : (g : Ground b m s t) → ¬ (s ≡ t) → Stands g 0 [] (opened_at b (nd m s) (nd m t) (neighbours m s))
  opens_rightly g apart = subst (Stands g 0 []) (sym (opened_away apart)) (go g.opens)
    where
      go : ((w : ℕ) × (keeps b m s w ≡ true) × (first ≡ Some (nd m w))) ⊎ ((first ≡ None) × ((w : ℕ) → keeps b m s w ≡ false)) → Stands g 0 [] (opened_to (nd m s) (nd m t) first)
      go (inl (w, k, f)) = subst (λ (o : Option Node). Stands g 0 [] (opened_to (nd m s) (nd m t) o)) (sym f)
          (inl (subst (λ (p : Place). Legit g 0 [] (going m s t d (round_course d p 0 None) 0)) (ap or_source (g.source_spot w))
          (rounding d d 0 None (record {
            history = opened i on;
            at = λ joined misses. g.odd_at_source joined w k f misses;
            reached = here s;
            early = (face_round (F g) d i).some;
            best_is = best_none (F g) (spot m s t) d d;
            missed = λ j l. absurd (omega arith);
            sum = omega (arith, sends_opened (F g) (Beyond g) g.beyond_trans twin d d i on);
            tells = tells_opened g d d i on;
          }))))
        where
          d : Dart
          d = (s, w)

          i : In d (F g).all
          i = dart_in g.rotation d k

          on : In d (face (F g) d)
          on = face_start (F g) d i
      go (inr (f, none)) = subst (λ (o : Option Node). Stands g 0 [] (opened_to (nd m s) (nd m t) o)) (sym f)
          (inr (record {
            has_ended = (refl, inr refl);
            right = λ joined. let (w, k) = g.joined_keeps joined in true≢false (sym k ∙ none w);
            total_is = refl;
            seldom = λ q c e only both. omega arith;
          }))
