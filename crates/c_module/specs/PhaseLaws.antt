-- A phase comes back from its number, and no other number says anything but silence.
use Rattle.std.specs.Prelude.{ℕ, zero, suc, ◌≡◌, refl}
use Rattle.module.specs.declared.state.Phase.{Phase}
use Rattle.module.specs.declared.state.Phase.TheVariants.{Silent, First, Command, Asked, Called, AskedAgain, CalledAgain, Count, Identifier, Given, PreparePec, ResetPec, AssignPec, Reply}
use Rattle.c_module.specs.Phases.{phase_in, phase_number}

pub phase_back : (p : Phase) → phase_in (phase_number p) ≡ p
phase_back Silent = refl
phase_back First = refl
phase_back Command = refl
phase_back Asked = refl
phase_back Called = refl
phase_back AskedAgain = refl
phase_back CalledAgain = refl
phase_back Count = refl
phase_back Identifier = refl
phase_back Given = refl
phase_back PreparePec = refl
phase_back ResetPec = refl
phase_back AssignPec = refl
phase_back Reply = refl

-- what is none of 1 to 13 is silent
pub other_silent : (n : ℕ) → (n ≡ 1 → ⊥) → (n ≡ 2 → ⊥) → (n ≡ 3 → ⊥) → (n ≡ 4 → ⊥) → (n ≡ 5 → ⊥) → (n ≡ 6 → ⊥) → (n ≡ 7 → ⊥) → (n ≡ 8 → ⊥) → (n ≡ 9 → ⊥) → (n ≡ 10 → ⊥) → (n ≡ 11 → ⊥) → (n ≡ 12 → ⊥) → (n ≡ 13 → ⊥) → phase_in n ≡ Silent
other_silent zero h1 h2 h3 h4 h5 h6 h7 h8 h9 h10 h11 h12 h13 = refl
other_silent (suc zero) h1 h2 h3 h4 h5 h6 h7 h8 h9 h10 h11 h12 h13 = absurd (h1 refl)
other_silent (suc (suc zero)) h1 h2 h3 h4 h5 h6 h7 h8 h9 h10 h11 h12 h13 = absurd (h2 refl)
other_silent (suc (suc (suc zero))) h1 h2 h3 h4 h5 h6 h7 h8 h9 h10 h11 h12 h13 = absurd (h3 refl)
other_silent (suc (suc (suc (suc zero)))) h1 h2 h3 h4 h5 h6 h7 h8 h9 h10 h11 h12 h13 = absurd (h4 refl)
other_silent (suc (suc (suc (suc (suc zero))))) h1 h2 h3 h4 h5 h6 h7 h8 h9 h10 h11 h12 h13 = absurd (h5 refl)
other_silent (suc (suc (suc (suc (suc (suc zero)))))) h1 h2 h3 h4 h5 h6 h7 h8 h9 h10 h11 h12 h13 = absurd (h6 refl)
other_silent (suc (suc (suc (suc (suc (suc (suc zero))))))) h1 h2 h3 h4 h5 h6 h7 h8 h9 h10 h11 h12 h13 = absurd (h7 refl)
other_silent (suc (suc (suc (suc (suc (suc (suc (suc zero)))))))) h1 h2 h3 h4 h5 h6 h7 h8 h9 h10 h11 h12 h13 = absurd (h8 refl)
other_silent (suc (suc (suc (suc (suc (suc (suc (suc (suc zero))))))))) h1 h2 h3 h4 h5 h6 h7 h8 h9 h10 h11 h12 h13 = absurd (h9 refl)
other_silent (suc (suc (suc (suc (suc (suc (suc (suc (suc (suc zero)))))))))) h1 h2 h3 h4 h5 h6 h7 h8 h9 h10 h11 h12 h13 = absurd (h10 refl)
other_silent (suc (suc (suc (suc (suc (suc (suc (suc (suc (suc (suc zero))))))))))) h1 h2 h3 h4 h5 h6 h7 h8 h9 h10 h11 h12 h13 = absurd (h11 refl)
other_silent (suc (suc (suc (suc (suc (suc (suc (suc (suc (suc (suc (suc zero)))))))))))) h1 h2 h3 h4 h5 h6 h7 h8 h9 h10 h11 h12 h13 = absurd (h12 refl)
other_silent (suc (suc (suc (suc (suc (suc (suc (suc (suc (suc (suc (suc (suc zero))))))))))))) h1 h2 h3 h4 h5 h6 h7 h8 h9 h10 h11 h12 h13 = absurd (h13 refl)
other_silent (suc (suc (suc (suc (suc (suc (suc (suc (suc (suc (suc (suc (suc (suc n)))))))))))))) h1 h2 h3 h4 h5 h6 h7 h8 h9 h10 h11 h12 h13 = refl
