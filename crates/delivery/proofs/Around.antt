-- The rotation of the kept neighbours of a node: what the step finds round it
use Rattle.std.proofs.Common.{◌≡◌, ℕ, Bool, true, false, ◌≢◌, ◌⊎◌, List, [], ◌∷◌, Some, None, Option, sym, refl, ap, ◌∙◌, subst, inl, inr, true≢false}
use native.Mathlib.Decide.{ℕ_discrete}
use Rattle.plane.specs.declared.Point.{Point}
use Rattle.plane.specs.Plane.{way}
use Rattle.plane.proofs.General.{Off}
use Rattle.plane.proofs.Arcs.{Next, Previous, redo, next_once, next_injective}
use Rattle.order.specs.declared.Sense.{Sense}
use Rattle.order.specs.declared.Sense.TheVariants.{Clockwise, Counter}
use Rattle.order.specs.declared.Start.{Start}
use Rattle.order.specs.declared.Start.TheVariants.{FullTurn}
use Rattle.order.specs.Directions.{sooner}
use Rattle.order.specs.Foremost.{foremost}
use Rattle.order.proofs.Firsts.{lawful_by, foremost_is, first_in}
use Rattle.order.proofs.ArcTest.{arc, arc_test, round_lawful}
use Rattle.floor.specs.declared.node.Node.{Node}
use Rattle.floor.specs.Meaning.{Meaning, Serving}
use Rattle.floor.specs.Planar.{Blocks, Lawful}
use Rattle.kept.specs.Kept.{first_round}
use Rattle.kept.proofs.Lists.{Has, fails}
use Rattle.kept.proofs.Graph.{points_apart}
use Rattle.delivery.specs.Law.{serving}
use Rattle.delivery.proofs.Ground.{pt, nd, near, keeps}
use Rattle.delivery.proofs.Nodes.{S, on_point, member, has_member, keeps_on, keeps_to, keeps_apart, off_at}

abbrev number_or : ℕ → Option Node → ℕ
number_or u None = u
number_or u (Some n) = n.number

module _ (b : Blocks) (m : Meaning) where
  -- the kept neighbour of v that comes first after u
  pub turned_to : Sense → ℕ → ℕ → ℕ
  turned_to sense v u = number_or u (first_round sense FullTurn (pt m v) (way (pt m v) (pt m u)) (near b m v))

module _ (b : Blocks) (m : Meaning) (l : Lawful b) (g : Serving m) where
  pub away : (i j : ℕ) → serving m i ≡ true → serving m j ≡ true → ¬ (i ≡ j) → pt m i ≢ pt m j
  away i j ei ej n = points_apart b m l g i j (pt m i) (pt m j) n (on_point m i ei) (on_point m j ej)

  module _ (v : ℕ) where
    -- ---- the first round v from the direction of any other point
    module _ (sense : Sense) (counts : Start) (q : Point) (differs : pt m v ≢ q) where
      abbrev comes : Node → Node → Bool
      comes x y = sooner sense counts (way (pt m v) q) (way (pt m v) x.point) (way (pt m v) y.point)

      abbrev found : Option Node
      found = first_round sense counts (pt m v) (way (pt m v) q) (near b m v)

      abbrev pub NoneSooner : ℕ → Type 0
      NoneSooner w = (x : ℕ) → keeps b m v x ≡ true → sooner sense counts (way (pt m v) q) (way (pt m v) (pt m x)) (way (pt m v) (pt m w)) ≡ false

      of_list : (ns : List Node) → ((w : Node) × (foremost comes ns ≡ Some w) × Has w ns × ((y : Node) → Has y ns → comes y w ≡ false)) ⊎ ((foremost comes ns ≡ None) × ((y : Node) → ¬ Has y ns))
      of_list [] = inr (refl, λ y i. i)
      of_list (n ∷ ns) =
          let (w, e, f) = foremost_is comes (λ _. Unit {0}) (lawful_by (λ (k : Node). k.point) (round_lawful sense counts (pt m v) q (λ e. differs (sym e)))) (n ∷ ns) n (inl refl) (λ _ _. tt) in
          inl (w, e, first_in f, f.none_before)

      pub first_found : ((w : ℕ) × (found ≡ Some (nd m w)) × (keeps b m v w ≡ true) × NoneSooner w) ⊎ ((found ≡ None) × ((x : ℕ) → keeps b m v x ≡ false))
      first_found = go (of_list (near b m v))
        where
          go : ((w : Node) × (found ≡ Some w) × Has w (near b m v) × ((y : Node) → Has y (near b m v) → comes y w ≡ false)) ⊎ ((found ≡ None) × ((y : Node) → ¬ Has y (near b m v)))
              → ((w : ℕ) × (found ≡ Some (nd m w)) × (keeps b m v w ≡ true) × NoneSooner w) ⊎ ((found ≡ None) × ((x : ℕ) → keeps b m v x ≡ false))
          go (inl (w, e, h, none)) =
              let (k, is) = member b m l g v w h in
              inl (w.number, e ∙ ap Some is, k, λ x kx. ap (λ (z : Node). comes (nd m x) z) (sym is) ∙ none (nd m x) (has_member b m l g v x kx))
          go (inr (e, none)) = inr (e, λ x. fails (λ kx. none (nd m x) (has_member b m l g v x kx)))

    -- ---- after a neighbour u
    apart_at : (u : ℕ) → keeps b m v u ≡ true → pt m v ≢ pt m u
    apart_at u k = away v u (keeps_on b m l g v u k) (keeps_to b m l g v u k) (keeps_apart b m l g v u k)

    sooner_arc : (sense : Sense) (u x w : ℕ) → keeps b m v u ≡ true → keeps b m v x ≡ true → keeps b m v w ≡ true
        → sooner sense FullTurn (way (pt m v) (pt m u)) (way (pt m v) (pt m x)) (way (pt m v) (pt m w)) ≡ arc sense (S m v) (S m u) (S m x) (S m w)
    sooner_arc sense u x w ku kx kw =
        arc_test sense (pt m v) (pt m u) (pt m x) (pt m w) (λ e. apart_at u ku (sym e)) (λ n. off_at b m l g v u x ku kx (λ e. n (sym (ap (pt m) e)))) (λ n. off_at b m l g v u w ku kw (λ e. n (sym (ap (pt m) e))))

    pub turned_is : (sense : Sense) (u : ℕ) → keeps b m v u ≡ true
        → (first_round sense FullTurn (pt m v) (way (pt m v) (pt m u)) (near b m v) ≡ Some (nd m (turned_to b m sense v u)))
        × (keeps b m v (turned_to b m sense v u) ≡ true)
        × ((x : ℕ) → keeps b m v x ≡ true → arc sense (S m v) (S m u) (S m x) (S m (turned_to b m sense v u)) ≡ false)
    unfolding turned_to
    turned_is sense u ku = go (first_found sense FullTurn (pt m u) (apart_at u ku))
      where
        found : Option Node
        found = first_round sense FullTurn (pt m v) (way (pt m v) (pt m u)) (near b m v)

        Turned : ℕ → Type 0
        Turned w = (found ≡ Some (nd m w)) × (keeps b m v w ≡ true) × ((x : ℕ) → keeps b m v x ≡ true → arc sense (S m v) (S m u) (S m x) (S m w) ≡ false)

        go : ((w : ℕ) × (found ≡ Some (nd m w)) × (keeps b m v w ≡ true) × ((x : ℕ) → keeps b m v x ≡ true → sooner sense FullTurn (way (pt m v) (pt m u)) (way (pt m v) (pt m x)) (way (pt m v) (pt m w)) ≡ false))
            ⊎ ((found ≡ None) × ((x : ℕ) → keeps b m v x ≡ false)) → Turned (number_or u found)
        go (inl (w, e, k, none)) = subst Turned (sym (ap (number_or u) e)) (e, k, λ x kx. sym (sooner_arc sense u x w ku kx k) ∙ none x kx)
        go (inr (e, none)) = absurd (true≢false (sym ku ∙ none u))

    -- ---- the two senses undo each other
    abbrev pub K : ℕ → Type 0
    K u = keeps b m v u ≡ true

    pub apart : (i j : ℕ) → K i → K j → ¬ (i ≡ j) → Off (S m v) (S m i) (S m j)
    apart i j ki kj n = off_at b m l g v i j ki kj n

    pub next : (u : ℕ) → K u → Next ℕ_discrete (S m) (S m v) K apart u (turned_to b m Clockwise v u)
    next u ku x kx = (turned_is Clockwise u ku).2 x kx

    previous : (u : ℕ) → K u → Previous ℕ_discrete (S m) (S m v) K apart u (turned_to b m Counter v u)
    previous u ku x kx = (turned_is Counter u ku).2 x kx

    pub undone : (u : ℕ) → K u → turned_to b m Counter v (turned_to b m Clockwise v u) ≡ u
    undone u ku =
        let w = turned_to b m Clockwise v u in
        let kw : K w = (turned_is Clockwise u ku).1 in
        let z = turned_to b m Counter v w in
        next_injective ℕ_discrete (S m) (S m v) K apart z u w (turned_is Counter w kw).1 ku kw (redo ℕ_discrete (S m) (S m v) K apart z w (previous w kw)) (next u ku)

    pub redone : (u : ℕ) → K u → turned_to b m Clockwise v (turned_to b m Counter v u) ≡ u
    redone u ku =
        let z = turned_to b m Counter v u in
        let kz : K z = (turned_is Counter u ku).1 in
        next_once ℕ_discrete (S m) (S m v) K apart z (turned_to b m Clockwise v z) u kz (turned_is Clockwise z kz).1 ku (next z kz) (redo ℕ_discrete (S m) (S m v) K apart z u (previous u ku))
