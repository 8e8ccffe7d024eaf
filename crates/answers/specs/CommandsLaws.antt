-- The lines of a choice, in letters: that it waits, for each reason; that it is sent; that it is declined; and that none waits.
use Rattle.std.specs.Prelude.{◌≡◌, refl}
use Rattle.udid.specs.Bytes.{bytes_of, udid_bytes}
use Rattle.text.specs.Chars.{chars}
use Rattle.writing.specs.Written.{pairs_of}
use Rattle.commands.specs.declared.command.Command.TheVariants.{Assign}
use Rattle.commands.specs.declared.command.End.TheVariants.{Abandoned, NotOutstanding, Chosen}
use Rattle.commands.specs.declared.command.Handed.TheVariants.{Send, Wait}
use Rattle.commands.specs.declared.command.Reason.TheVariants.{Fixed, Kept, Picked, Claimed}
use Rattle.answers.specs.Commands.{command_text}

pub chosen_fixed : command_text (Wait (Chosen (record { high = 0x8000000000000000; low = 0 }) (record { 0 = 0x20 }) Fixed)) ≡ chars "0 chosen 80000000000000000000000000000000 0x20 fixed\n"
unfolding pairs_of udid_bytes bytes_of
chosen_fixed = refl

pub chosen_kept : command_text (Wait (Chosen (record { high = 0x8000000000000000; low = 0 }) (record { 0 = 0x20 }) Kept)) ≡ chars "0 chosen 80000000000000000000000000000000 0x20 kept\n"
unfolding pairs_of udid_bytes bytes_of
chosen_kept = refl

pub chosen_picked : command_text (Wait (Chosen (record { high = 0x8000000000000000; low = 0 }) (record { 0 = 0x20 }) Picked)) ≡ chars "0 chosen 80000000000000000000000000000000 0x20 picked\n"
unfolding pairs_of udid_bytes bytes_of
chosen_picked = refl

pub chosen_claimed : command_text (Wait (Chosen (record { high = 0x8000000000000000; low = 0 }) (record { 0 = 0x20 }) Claimed)) ≡ chars "0 chosen 80000000000000000000000000000000 0x20 claimed\n"
unfolding pairs_of udid_bytes bytes_of
chosen_claimed = refl

pub issued : command_text (Send (Assign (record { high = 0x8000000000000000; low = 0 }) (record { 0 = 0x20 }))) ≡ chars "0 next assign 80000000000000000000000000000000 0x20\n"
unfolding pairs_of udid_bytes bytes_of
issued = refl

pub declined : command_text (Wait Abandoned) ≡ chars "14 end\n"
declined = refl

pub no_choice : command_text (Wait NotOutstanding) ≡ chars "21\n"
no_choice = refl
