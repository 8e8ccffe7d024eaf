-- The struct of a command says the command, in numbers.
use Rattle.std.specs.Prelude.{◌≡◌, refl, [], ◌∷◌, ◌↔◌, ℕ}
use Rattle.std.proofs.Common.{sym, ap, ◌∙◌, subst, arith, ne_eqb}
use Rattle.wire.specs.declared.address.Address.{Address}
use Rattle.udid.specs.declared.Udid.{Udid}
use Rattle.arp.specs.Numbers.{end_number, command_number}
use Rattle.commands.specs.declared.command.Command.TheVariants.{Prepare, GetUdid, Assign}
use Rattle.commands.specs.declared.command.End.{End}
use Rattle.commands.specs.declared.command.End.TheVariants.{Nothing, Ended, NoneFree, Abandoned, NotOutstanding, Chosen}
use Rattle.commands.specs.declared.command.Handed.{Handed}
use Rattle.commands.specs.declared.command.Handed.TheVariants.{Send, Wait}
use Rattle.report.specs.Report.{number_in}
use Rattle.c_arp.specs.declared.kinds.HbCommand.{HbCommand}
use Rattle.c_arp.specs.Commands.{told_end, told_command}
use Rattle.c_arp.specs.CommandParts.{CommandParts, EndIs, CommandIs, KindsAre, ReasonsAre}

-- the answer is the scope's number, 0 where there is none
told_end_number : (e : End) (gets picked : ℕ) → (told_end e gets picked).answer ≡ number_in (end_number e)
told_end_number Ended gets picked = refl
told_end_number (NoneFree u) gets picked = refl
told_end_number Abandoned gets picked = refl
told_end_number NotOutstanding gets picked = refl
told_end_number Nothing gets picked = refl
told_end_number (Chosen u a why) gets picked = refl

-- which is never 1
end_never_1 : (e : End) (gets picked : ℕ) → (told_end e gets picked).answer ≡ 1 → ⊥
end_never_1 Ended gets picked q = omega arith
end_never_1 (NoneFree u) gets picked q = omega arith
end_never_1 Abandoned gets picked q = omega arith
end_never_1 NotOutstanding gets picked q = omega arith
end_never_1 Nothing gets picked q = omega arith
end_never_1 (Chosen u a why) gets picked q = omega arith

pub never_1 : (k : Handed) (gets picked : ℕ) → (told_command k gets picked).answer ≡ 1 → ⊥
never_1 (Send Prepare) gets picked q = omega arith
never_1 (Send GetUdid) gets picked q = omega arith
never_1 (Send (Assign u a)) gets picked q = omega arith
never_1 (Wait e) gets picked q = end_never_1 e gets picked q

pub told_command_number : (k : Handed) (gets picked : ℕ) → (told_command k gets picked).answer ≡ number_in (command_number k)
told_command_number (Send Prepare) gets picked = refl
told_command_number (Send GetUdid) gets picked = refl
told_command_number (Send (Assign u a)) gets picked = refl
told_command_number (Wait e) gets picked = told_end_number e gets picked

end_parts : (e : End) (gets picked : ℕ) → EndIs e gets picked (told_end e gets picked)
end_parts Ended gets picked = record { kind_is = refl; answer_is = refl; address_is = refl; gets_is = refl; picked_is = refl; reason_is = refl; high_is = refl; low_is = refl }
end_parts (NoneFree u) gets picked = record { kind_is = refl; answer_is = refl; address_is = refl; gets_is = refl; picked_is = refl; reason_is = refl; high_is = refl; low_is = refl }
end_parts Abandoned gets picked = record { kind_is = refl; answer_is = refl; address_is = refl; gets_is = refl; picked_is = refl; reason_is = refl; high_is = refl; low_is = refl }
end_parts NotOutstanding gets picked = record { kind_is = refl; answer_is = refl; address_is = refl; gets_is = refl; picked_is = refl; reason_is = refl; high_is = refl; low_is = refl }
end_parts Nothing gets picked = record { kind_is = refl; answer_is = refl; address_is = refl; gets_is = refl; picked_is = refl; reason_is = refl; high_is = refl; low_is = refl }
end_parts (Chosen u a why) gets picked = record { kind_is = refl; answer_is = refl; address_is = refl; gets_is = refl; picked_is = refl; reason_is = refl; high_is = refl; low_is = refl }

pub command_parts : (k : Handed) (gets picked : ℕ) (r : HbCommand) → r ≡ told_command k gets picked → CommandIs k gets picked r
command_parts k gets picked r e = subst (CommandIs k gets picked) (sym e) (go k)
  where
    go : (k : Handed) → CommandIs k gets picked (told_command k gets picked)
    go (Send Prepare) = record { kind_is = refl; answer_is = refl; address_is = refl; gets_is = refl; picked_is = refl; reason_is = refl; high_is = refl; low_is = refl }
    go (Send GetUdid) = record { kind_is = refl; answer_is = refl; address_is = refl; gets_is = refl; picked_is = refl; reason_is = refl; high_is = refl; low_is = refl }
    go (Send (Assign u a)) = record { kind_is = refl; answer_is = refl; address_is = refl; gets_is = refl; picked_is = refl; reason_is = refl; high_is = refl; low_is = refl }
    go (Wait x) = end_parts x gets picked

-- 21, exactly where the controller gives it, and then every other part is zero; the kind is the number of the case
end_21 : (e : End) (gets picked : ℕ) → (told_end e gets picked).answer ≡ 21 → (end_number e ≡ (21, []) ∷ []) × CommandParts (told_end e gets picked) 6 21 0 0 0 0 0 0
end_21 Ended gets picked q = absurd (omega arith)
end_21 (NoneFree u) gets picked q = absurd (omega arith)
end_21 Abandoned gets picked q = absurd (omega arith)
end_21 NotOutstanding gets picked q = (refl, record { kind_is = refl; answer_is = refl; address_is = refl; gets_is = refl; picked_is = refl; reason_is = refl; high_is = refl; low_is = refl })
end_21 Nothing gets picked q = absurd (omega arith)
end_21 (Chosen u a why) gets picked q = absurd (omega arith)

handed_21 : (k : Handed) (gets picked : ℕ) → (told_command k gets picked).answer ≡ 21 → (command_number k ≡ (21, []) ∷ []) × CommandParts (told_command k gets picked) 6 21 0 0 0 0 0 0
handed_21 (Send Prepare) gets picked q = absurd (omega arith)
handed_21 (Send GetUdid) gets picked q = absurd (omega arith)
handed_21 (Send (Assign u a)) gets picked q = absurd (omega arith)
handed_21 (Wait e) gets picked q = end_21 e gets picked q

module _ (k : Handed) (gets picked : ℕ) (r : HbCommand) (e : r ≡ told_command k gets picked) where
  answer_told : r.answer ≡ (told_command k gets picked).answer
  answer_told = ap (λ (x : HbCommand). x.answer) e

  pub command_21 : (r.answer ≡ 21) ↔ (command_number k ≡ (21, []) ∷ [])
  command_21 = (λ q. (handed_21 k gets picked (sym answer_told ∙ q)).0, λ q. answer_told ∙ told_command_number k gets picked ∙ ap number_in q)

  pub command_21_zero : r.answer ≡ 21 → CommandParts r 6 21 0 0 0 0 0 0
  command_21_zero q = subst (λ (x : HbCommand). CommandParts x 6 21 0 0 0 0 0 0) (sym e) (handed_21 k gets picked (sym answer_told ∙ q)).1

-- each kind that a caller gives is its command
pub commands_of_kinds : (u : Udid) (a : Address) → KindsAre u a
commands_of_kinds u a = record {
  prepare = refl;
  get = refl;
  assign = refl;
  other = λ kind h. rw (ne_eqb kind 0 (λ e. omega arith), ne_eqb kind 1 (λ e. omega arith), ne_eqb kind 2 (λ e. omega arith));
}

-- each reason is its number
pub reasons_in_numbers : ReasonsAre
reasons_in_numbers = record { fixed = refl; kept = refl; picked = refl; claimed = refl }
