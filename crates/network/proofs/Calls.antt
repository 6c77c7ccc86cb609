-- What a call can do: leave the network as it is, write its line, or set a mark while no packet is under way
use Rattle.std.proofs.Common.{◌≡◌, ℕ, Bool, true, false, cond, ◌&&◌, ltb, ◌≢◌, List, [], ◌∷◌, length, is_some, Some, None, Option, refl, ap, ◌∙◌, length-set, get_or-set_other}
use Rattle.std.proofs.lemmas.Bool.{cond_both}
use Rattle.floor.specs.declared.node.Radio.{Radio}
use Rattle.std.specs.List.{list_any}
use Rattle.floor.specs.Meaning.{Meaning, radio}
use Rattle.floor.specs.Planar.{Blocks}
use Rattle.host.specs.Questions.{with_mark}
use Rattle.face.specs.declared.record.Link.{Link}
use Rattle.face.specs.declared.record.Record.{Record}
use Rattle.face.specs.Packet.{opening}
use Rattle.delivery.specs.Law.{serving}
use Rattle.network.specs.Network.{Net, made, Call, On, Withdraw, Return, LineCall, Open, Hop, Carry, Collect, Answer, Denied, Switched, on_line, put, moving, opened_on, hopped_on, call_on, switched, called, then}
use Rattle.network.specs.Law.{Event, Past, net_after, is_switching, marked_by, host_after}

pick : (x : Bool) (p q : Net × Answer) (Q : Net × Answer → Type 0) → Q p → Q q → Q (cond x p q)
pick true p q Q hp hq = hp
pick false p q Q hp hq = hq

module _ (b : Blocks) (n : Net) where
  -- a call on line l is refused, or writes the line and is answered with no switching
  module _ (l : ℕ) (Q : Net × Answer → Type 0) (denied : (e : ℕ) → Q (n, Denied e)) (written : (o : Option Record) (a : Answer) → is_switching a ≡ false → Q (put n l o, a)) where
    by_opened : (x : Bool) (o : Option Record) → Q (opened_on b n l x o)
    by_opened x None = denied _
    by_opened x (Some r) = pick x _ _ Q (written _ _ refl) (denied _)

    by_hopped : (r : Record) (o : Option Link) → Q (hopped_on b n l r o)
    by_hopped r None = denied _
    by_hopped r (Some k) = written _ _ refl

    by_call : (o : Option Record) (c : LineCall) → Q (call_on b n l o c)
    by_call (Some r) (Open s t) = denied _
    by_call None (Open s t) = by_opened (serving n.host s && serving n.host t) (opening b n.host s t)
    by_call None Hop = denied _
    by_call (Some r) Hop = by_hopped r r.hand
    by_call None (Carry budget room) = denied _
    by_call (Some r) (Carry budget room) = pick (is_some r.hand) _ _ Q (written _ _ refl) (denied _)
    by_call None Collect = denied _
    by_call (Some r) Collect = pick (is_some r.hand) _ _ Q (denied _) (written _ _ refl)

    pub line_call : (c : LineCall) → Q (called b n (On l c))
    line_call c = pick (ltb 15 l) _ _ Q (denied _) (by_call (on_line n l) c)

  abbrev pub with_host : Meaning → Net
  with_host m = record { host = m; lines = n.lines }

  -- a switching is refused, or made while no packet is under way
  pub switching : (i : ℕ) (mark : Bool) (o : Option Radio) (Q : Net × Answer → Type 0) → ((e : ℕ) → Q (n, Denied e))
      → (list_any moving n.lines ≡ false → Q (with_host (with_mark n.host i mark), Switched)) → Q (switched b n i mark o)
  switching i mark None Q denied done = denied _
  switching i mark (Some p) Q denied done = cond_both (list_any moving n.lines) _ _ Q (λ _. denied _) done

  -- any call: whatever holds of the network refused, its lines written, and its host marked while no packet is under way, holds after it
  pub any_call : (Q : Net × Answer → Type 0) (c : Call) → ((e : ℕ) → Q (n, Denied e)) → ((l : ℕ) (o : Option Record) (a : Answer) → is_switching a ≡ false → Q (put n l o, a))
      → (list_any moving n.lines ≡ false → Q (with_host (marked_by n.host c), Switched)) → Q (called b n c)
  any_call Q (On l c) denied written done = line_call l Q denied (written l) c
  any_call Q (Withdraw i) denied written done = switching i false (radio n.host i) Q denied done
  any_call Q (Return i) denied written done = switching i true (radio n.host i) Q denied done

  -- ---- the host is the one told

  abbrev Told : Call → Net × Answer → Type 0
  Told c a = a.0.host ≡ cond (is_switching a.1) (marked_by n.host c) n.host

  told : (c : Call) → Told c (called b n c)
  told c = any_call (Told c) c (λ e. refl) (λ l o a h. rw h) (λ _. refl)

  -- ---- the lines stay sixteen

  pub lines_stay : (c : Call) → length (then b n c).lines ≡ length n.lines
  lines_stay c = any_call (λ (a : Net × Answer). length a.0.lines ≡ length n.lines) c (λ e. refl) (λ l o a h. length-set n.lines l o) (λ _. refl)

  -- ---- a call on another line leaves this one, and every line call leaves the host

  pub elsewhere : (k l : ℕ) (c : LineCall) → l ≢ k → on_line (then b n (On k c)) l ≡ on_line n l
  elsewhere k l c d = line_call k (λ (a : Net × Answer). on_line a.0 l ≡ on_line n l) (λ e. refl) (λ o a h. get_or-set_other n.lines k l o None d) c

  pub host_stays : (k : ℕ) (c : LineCall) → (then b n (On k c)).host ≡ n.host
  host_stays k c = line_call k (λ (a : Net × Answer). a.0.host ≡ n.host) (λ e. refl) (λ o a h. refl) c

pub host_told : (b : Blocks) (n : Net) (es : List Event) → Past b n es → (net_after b n es).host ≡ host_after n.host es
host_told b n [] h = refl
host_told b n (e ∷ es) h =
    let first : (then b n e.0).host ≡ cond (is_switching e.1) (marked_by n.host e.0) n.host
    = told b n e.0 ∙ ap (λ (a : Answer). cond (is_switching a) (marked_by n.host e.0) n.host) h.0 in
    host_told b (then b n e.0) es h.1 ∙ ap (λ (m : Meaning). host_after m es) first

lines_after : (b : Blocks) (n : Net) (es : List Event) → length (net_after b n es).lines ≡ length n.lines
lines_after b n [] = refl
lines_after b n (e ∷ es) = lines_after b (then b n e.0) es ∙ lines_stay b n e.0

pub sixteen : (b : Blocks) (m : Meaning) (es : List Event) → length (net_after b (made m) es).lines ≡ 16
sixteen b m es = lines_after b (made m) es
