-- What is clear, and what is not: what was expected at which place.
use Rattle.std.specs.Prelude.{ℕ, Result, Ok, Err}
use Rattle.requests.specs.declared.expected.Expected.{Expected}
use Rattle.requests.specs.declared.expected.Unclear.{Unclear}

abbrev pub unclear : {A : Type 0} → Expected → ℕ → Result A Unclear
unclear e at = Err (record { expected = e; place = at })

-- what a word says, or that something was expected in its place
abbrev pub due : {A : Type 0} → Expected → Result A ℕ → Result A Unclear
due e (Ok w) = Ok w
due e (Err at) = unclear e at

-- what follows what is clear
abbrev pub after : {A B : Type 0} → Result A Unclear → (A → Result B Unclear) → Result B Unclear
after (Ok a) next = next a
after (Err u) next = Err u
