-- The answer that the program gives as JSON.
use Rattle.std.specs.Prelude.{ℕ, List, [], ◌∷◌, ◌++◌, map, Result, Ok, Err, codes}
use Rattle.serde_json.specs.Data.{Data, Members, number, unsigned, string, array, object, member, no_members}
use Rattle.serde_json.specs.View.{items_of}
use Rattle.serde_json.specs.Written.{compact_text}
use Rattle.ring_names.specs.declared.refusal.Refusal.{Refusal}
use Rattle.ring_names.specs.declared.refusal.Refusal.TheVariants.{BadLine, TooLarge, UnknownNode, Repeated, QuorumTooSmall, SharedNode, NotMember}
use Rattle.ring_names.specs.declared.refusal.Refusal.TheVariants.{LaterDependency, WrongStage, UnorderedSlot, BadSource, MovingSource, SharedInPlan, NotJoined}
use Rattle.ring_names.specs.declared.refusal.Refusal.TheVariants.{RetiredInUse, NoPlan, BadPath, CoverMissing, ChainBroken, TooManyChains, NotReady}
use Rattle.ring_names.specs.declared.refusal.Refusal.TheVariants.{AlreadyDone, NodeDown, KeeperTaken, KeeperInPartition, StaleTickets, TooFewSlots, UnknownNumber}
use Rattle.ring_names.specs.declared.refusal.Refusal.TheVariants.{HintsLeft, NotOpen, ChunksLeft, HistoryFull, LossesSpent, OutOfMemory, ReadFailed}
use Rattle.ring_names.specs.declared.refusal.Refusal.TheVariants.{WriteFailed, Mismatch, Disagree, TurnsSpent}
use Rattle.ring_names.specs.Refusals.{number_of, values_of}

-- the name of the refusal
abbrev pub name_of : Refusal → List ℕ
name_of (BadLine a) = codes "BadLine"
name_of (TooLarge a) = codes "TooLarge"
name_of (UnknownNode a) = codes "UnknownNode"
name_of (Repeated a) = codes "Repeated"
name_of (QuorumTooSmall a) = codes "QuorumTooSmall"
name_of (SharedNode a) = codes "SharedNode"
name_of (NotMember a) = codes "NotMember"
name_of (LaterDependency a) = codes "LaterDependency"
name_of (WrongStage a) = codes "WrongStage"
name_of (UnorderedSlot a) = codes "UnorderedSlot"
name_of (BadSource a) = codes "BadSource"
name_of (MovingSource a) = codes "MovingSource"
name_of (SharedInPlan a) = codes "SharedInPlan"
name_of (NotJoined a) = codes "NotJoined"
name_of (RetiredInUse a) = codes "RetiredInUse"
name_of NoPlan = codes "NoPlan"
name_of (BadPath a) = codes "BadPath"
name_of (CoverMissing a b) = codes "CoverMissing"
name_of (ChainBroken a) = codes "ChainBroken"
name_of (TooManyChains a) = codes "TooManyChains"
name_of NotReady = codes "NotReady"
name_of AlreadyDone = codes "AlreadyDone"
name_of (NodeDown a) = codes "NodeDown"
name_of KeeperTaken = codes "KeeperTaken"
name_of KeeperInPartition = codes "KeeperInPartition"
name_of (StaleTickets a) = codes "StaleTickets"
name_of (TooFewSlots a) = codes "TooFewSlots"
name_of UnknownNumber = codes "UnknownNumber"
name_of HintsLeft = codes "HintsLeft"
name_of NotOpen = codes "NotOpen"
name_of (ChunksLeft a) = codes "ChunksLeft"
name_of HistoryFull = codes "HistoryFull"
name_of LossesSpent = codes "LossesSpent"
name_of OutOfMemory = codes "OutOfMemory"
name_of ReadFailed = codes "ReadFailed"
name_of WriteFailed = codes "WriteFailed"
name_of (Mismatch a b) = codes "Mismatch"
name_of Disagree = codes "Disagree"
name_of TurnsSpent = codes "TurnsSpent"

abbrev pub number_data : ℕ → Data
number_data n = number (unsigned n)

-- the members of the object of a refusal: `no`, and the refusal's name, number and values
abbrev pub refusal_members : Refusal → Members
refusal_members e = member (codes "answer") (string (codes "no")) (member (codes "name") (string (name_of e))
    (member (codes "number") (number_data (number_of e)) (member (codes "values") (array (items_of (map number_data (values_of e)))) no_members)))

-- the object of a refusal
abbrev pub no_object : Refusal → Data
no_object e = object (refusal_members e)

-- `yes`, or `no`
abbrev pub answer_value : Result (List ℕ) Refusal → Data
answer_value (Ok text) = object (member (codes "answer") (string (codes "yes")) no_members)
answer_value (Err e) = no_object e

-- its line
abbrev pub json_of : Result (List ℕ) Refusal → List ℕ
json_of r = compact_text (answer_value r) ++ 10 ∷ []
