-- What a call does to a network, in the words of the model.
use Rattle.std.specs.Prelude.{◌≡◌, ℕ, Bool, true, false}
use Rattle.floor.specs.Meaning.{Meaning}
use Rattle.floor.specs.Planar.{Blocks}
use Rattle.network.specs.declared.network.Network.{Network}
use Rattle.network.specs.Calls.{net, Does}
use Rattle.network.specs.Network.{Net, LineCall, Call, Answer, On, Withdraw, Return}

-- a network as the model has it
abbrev pub net_of : {H P : Type 0} → (H → Meaning) → Network H P → Net
net_of meaning n = net (meaning n.host) n.lines.records

-- host and planariser are as they were
abbrev pub OverTheSame : {H P : Type 0} → Network H P → Network H P → Type 0
OverTheSame old new = (new.host ≡ old.host) × (new.planariser ≡ old.planariser)

-- a call on a line does what the model says, and leaves host and planariser as they were
pub record DoesOnLine {H P : Type 0} (meaning : H → Meaning) (blocking : P → Blocks) (old : Network H P) (line : ℕ) (call : LineCall) (new : Network H P) (said : Answer) : Type 0 where
  pub does : Does (blocking old.planariser) (net_of meaning old) (On line call) (net_of meaning new) said
  pub same : OverTheSame old new

-- a call on a node does what the model says, and leaves the planariser as it was
pub record DoesToNode {H P : Type 0} (meaning : H → Meaning) (blocking : P → Blocks) (old : Network H P) (call : Call) (new : Network H P) (said : Answer) : Type 0 where
  pub does : Does (blocking old.planariser) (net_of meaning old) call (net_of meaning new) said
  pub planariser : new.planariser ≡ old.planariser

-- taking a node out of service, or putting it back
abbrev pub switching : Bool → ℕ → Call
switching false i = Withdraw i
switching true i = Return i
