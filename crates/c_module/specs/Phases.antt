-- Where a module stands in a packet, as a number for C, there and back.
use Rattle.std.specs.Prelude.{ℕ, List, [], ◌∷◌, get_or}
use Rattle.module.specs.declared.state.Phase.{Phase}
use Rattle.module.specs.declared.state.Phase.TheVariants.{Silent, First, Command, Asked, Called, AskedAgain, CalledAgain, Count, Identifier, Given, PreparePec, ResetPec, AssignPec, Reply}

abbrev pub phases : List Phase
phases = Silent ∷ First ∷ Command ∷ Asked ∷ Called ∷ AskedAgain ∷ CalledAgain ∷ Count ∷ Identifier ∷ Given ∷ PreparePec ∷ ResetPec ∷ AssignPec ∷ Reply ∷ []

-- phase number n; a number that no phase has is silent
abbrev pub phase_in : ℕ → Phase
phase_in n = get_or phases n Silent

abbrev pub phase_number : Phase → ℕ
phase_number Silent = 0
phase_number First = 1
phase_number Command = 2
phase_number Asked = 3
phase_number Called = 4
phase_number AskedAgain = 5
phase_number CalledAgain = 6
phase_number Count = 7
phase_number Identifier = 8
phase_number Given = 9
phase_number PreparePec = 10
phase_number ResetPec = 11
phase_number AssignPec = 12
phase_number Reply = 13
