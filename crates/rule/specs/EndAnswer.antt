-- The end of the plain rule in the scope's numbers: the answer, the identifier that asked, and how many Get UDIDs there are.
use Rattle.std.specs.Prelude.{ℕ, zero, suc}
use Rattle.udid.specs.declared.Udid.{Udid}
use Rattle.rule.specs.PlainRule.{Ending, served, none_free}

-- 0, or 13 with the identifier that asked
abbrev pub number_of : Ending → ℕ
number_of served = 0
number_of (none_free u) = 13

-- zeros where all are served
abbrev pub asker_of : Ending → Udid
asker_of served = record { high = 0; low = 0 }
asker_of (none_free u) = u

-- Get UDIDs for a list of so many bytes: none where it is empty, else one more than targets are bound
abbrev pub gets_for : ℕ → ℕ → ℕ
gets_for zero bound = 0
gets_for (suc n) bound = suc bound
