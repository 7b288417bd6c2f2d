-- The number, the values and the line of each refusal.
use Rattle.std.specs.Prelude.{ℕ, List, [], ◌∷◌, ◌++◌, codes}
use Rattle.std.specs.List.{flat_map}
use Rattle.std.specs.Fmt.{decimal}
use Rattle.ring_names.specs.declared.refusal.Refusal.{Refusal}
use Rattle.ring_names.specs.declared.refusal.Refusal.TheVariants.{BadLine, TooLarge, UnknownNode, Repeated, QuorumTooSmall, SharedNode, NotMember}
use Rattle.ring_names.specs.declared.refusal.Refusal.TheVariants.{LaterDependency, WrongStage, UnorderedSlot, BadSource, MovingSource, SharedInPlan}
use Rattle.ring_names.specs.declared.refusal.Refusal.TheVariants.{NotJoined, RetiredInUse, NoPlan, BadPath, CoverMissing, ChainBroken, TooManyChains}
use Rattle.ring_names.specs.declared.refusal.Refusal.TheVariants.{NotReady, AlreadyDone, NodeDown, KeeperTaken, KeeperInPartition, StaleTickets}
use Rattle.ring_names.specs.declared.refusal.Refusal.TheVariants.{TooFewSlots, UnknownNumber, HintsLeft, NotOpen, ChunksLeft, HistoryFull, LossesSpent, OutOfMemory}
use Rattle.ring_names.specs.declared.refusal.Refusal.TheVariants.{ReadFailed, WriteFailed, Mismatch, Disagree, TurnsSpent}

-- the number by which formats and programs know the refusal
abbrev pub number_of : Refusal → ℕ
number_of (BadLine a) = 1
number_of (TooLarge a) = 2
number_of (UnknownNode a) = 3
number_of (Repeated a) = 4
number_of (QuorumTooSmall a) = 10
number_of (SharedNode a) = 11
number_of (NotMember a) = 12
number_of (LaterDependency a) = 20
number_of (WrongStage a) = 21
number_of (UnorderedSlot a) = 22
number_of (BadSource a) = 23
number_of (MovingSource a) = 24
number_of (SharedInPlan a) = 25
number_of (NotJoined a) = 26
number_of (RetiredInUse a) = 27
number_of NoPlan = 28
number_of (BadPath a) = 30
number_of (CoverMissing a b) = 32
number_of (ChainBroken a) = 33
number_of (TooManyChains a) = 34
number_of NotReady = 40
number_of AlreadyDone = 41
number_of (NodeDown a) = 42
number_of KeeperTaken = 43
number_of KeeperInPartition = 44
number_of (StaleTickets a) = 45
number_of (TooFewSlots a) = 46
number_of UnknownNumber = 47
number_of HintsLeft = 48
number_of NotOpen = 49
number_of (ChunksLeft a) = 50
number_of HistoryFull = 51
number_of LossesSpent = 52
number_of OutOfMemory = 60
number_of ReadFailed = 61
number_of WriteFailed = 62
number_of (Mismatch a b) = 70
number_of Disagree = 70
number_of TurnsSpent = 71

-- the values, in the order in which the line has them
abbrev pub values_of : Refusal → List ℕ
values_of (BadLine a) = a ∷ []
values_of (TooLarge a) = a ∷ []
values_of (UnknownNode a) = a ∷ []
values_of (Repeated a) = a ∷ []
values_of (QuorumTooSmall a) = a ∷ []
values_of (SharedNode a) = a ∷ []
values_of (NotMember a) = a ∷ []
values_of (LaterDependency a) = a ∷ []
values_of (WrongStage a) = a ∷ []
values_of (UnorderedSlot a) = a ∷ []
values_of (BadSource a) = a ∷ []
values_of (MovingSource a) = a ∷ []
values_of (SharedInPlan a) = a ∷ []
values_of (NotJoined a) = a ∷ []
values_of (RetiredInUse a) = a ∷ []
values_of NoPlan = []
values_of (BadPath a) = a ∷ []
values_of (CoverMissing a b) = a ∷ b ∷ []
values_of (ChainBroken a) = a ∷ []
values_of (TooManyChains a) = a ∷ []
values_of NotReady = []
values_of AlreadyDone = []
values_of (NodeDown a) = a ∷ []
values_of KeeperTaken = []
values_of KeeperInPartition = []
values_of (StaleTickets a) = a ∷ []
values_of (TooFewSlots a) = a ∷ []
values_of UnknownNumber = []
values_of HintsLeft = []
values_of NotOpen = []
values_of (ChunksLeft a) = a ∷ []
values_of HistoryFull = []
values_of LossesSpent = []
values_of OutOfMemory = []
values_of ReadFailed = []
values_of WriteFailed = []
values_of (Mismatch a b) = a ∷ b ∷ []
values_of Disagree = []
values_of TurnsSpent = []

-- `no`, the number and the values, between single spaces, and the byte 0A
abbrev pub line_of : Refusal → List ℕ
line_of e = codes "no" ++ flat_map (λ n. 32 ∷ decimal n) (number_of e ∷ values_of e) ++ 10 ∷ []
