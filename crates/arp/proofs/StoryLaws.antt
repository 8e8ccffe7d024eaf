-- The controller by its history: the story of the events alone gives what each address is known for, what the pool has, what each step hands
-- out, its 21 and its 13; which traces leave a binding; and what a start does.
use Rattle.std.specs.Prelude.{ℕ, ◌≤◌, ◌<◌, ◌≡◌, refl, true, List, [], ◌∷◌, ◌↔◌}
use Rattle.std.proofs.Common.{sym, ap, ◌∙◌, subst, inl, inr, le-leb}
use Rattle.std.proofs.lemmas.Bool.{lt-leb}
use Rattle.lists.specs.AbsurdLaws.{zero_is_one}
use Rattle.lists.specs.Choice.{or}
use Rattle.wire.specs.Addresses.{is_listed}
use Rattle.pool.specs.Pools.{member}
use Rattle.pool.specs.Start.{starting_pool}
use Rattle.pool.proofs.StartLaws.{member_starting}
use Rattle.pool.specs.declared.Pool.{Pool}
use Rattle.udid.specs.declared.Udid.{Udid}
use Rattle.arp.proofs.HandedOutLaws.{heard_by_table, table_is_story}
use Rattle.arp.proofs.HandingLaws.{gets_are_sent}
use Rattle.arp.proofs.HistoryLaws.{reached_good}
use Rattle.arp.proofs.LookupLaws.{lookup_0, lookup_1, lookup_15}
use Rattle.arp.proofs.NoneFreeLaws.{step_13_by_story, number_13_is_none_free}
use Rattle.arp.proofs.OutstandingLaws.{step_21_by_events}
use Rattle.slots.proofs.SlotsLaws.{open_all}
use Rattle.arp.proofs.SinceStartLaws.{completes_is_read, replied_is_read, bound_either}
use Rattle.arp.proofs.TableLaws.{addresses_by_table, lookup_by_table}
use Rattle.arp.specs.Story.{Story, next_by, story, Told, ByHistory}
use Rattle.slots.specs.Slots.{held_at}
use Rattle.arp.specs.Choosing.{sending}
use Rattle.arp.proofs.ChoosingLaws.{Halved, heard_halved, sends_the_same}
use Rattle.arp.specs.Controller.{started, stepped}
use Rattle.arp.specs.History.{By, Event, Received, heard, run}
use Rattle.arp.specs.Lookup.{looked_up}
use Rattle.arp.specs.Numbers.{command_number, lookup_number}
use Rattle.arp.specs.Replay.{Replied, Assigned, read_as, handed_out, number_of, again}
use Rattle.hearing.specs.Told.{no_command}
use Rattle.commands.specs.declared.command.Command.TheVariants.{Prepare, GetUdid, Assign}
use Rattle.commands.specs.declared.command.End.TheVariants.{NoneFree, Abandoned}
use Rattle.commands.specs.declared.command.Handed.{Handed}
use Rattle.commands.specs.declared.command.Handed.TheVariants.{Send, Wait}
use Rattle.slots.specs.declared.Binding.TheVariants.{Bound}
use Rattle.arp.specs.declared.state.Controller.{Controller}
use Rattle.arp.specs.declared.state.Stepped.{Stepped}

-- THE EVENTS ALONE give what each address is known for, what the pool has, how many Get UDIDs were handed out and what was handed out last
pub state_by_story : (occupied : Pool) (last : ℕ) (es : List Event) → Told occupied last es
state_by_story occupied last es = record {
  held = λ a. (addresses_by_table occupied last es a).0 ∙ ap (λ (w : Story). w.known.held a) (table_is_story occupied last es);
  pool = λ a. (addresses_by_table occupied last es a).1 ∙ ap (λ (w : Story). w.known.used a) (table_is_story occupied last es);
  gets = gets_are_sent occupied last es ∙ ap (λ (w : Story). w.gets) (table_is_story occupied last es);
  command = ap (λ (w : Story). w.command) (table_is_story occupied last es);
  picked = ap (λ (w : Story). w.picked) (table_is_story occupied last es);
}

-- A TRACE LEAVES A BINDING as it is, but for a reply with its identifier, or a complete Assign of its address
pub binding_stays : (occupied : Pool) (last : ℕ) (es : List Event) (by : By) (tr : List ℕ) (a : ℕ) (u : Udid)
    → held_at (run occupied last es).slots a ≡ Bound u
    → (read_as (handed_out occupied last es) tr ≡ Replied u → ⊥)
    → ((w : Udid) → read_as (handed_out occupied last es) tr ≡ Assigned w a → ⊥)
    → held_at (run occupied last (Received by tr ∷ es)).slots a ≡ Bound u
binding_stays occupied last es by tr a u e n m =
    bound_either occupied last es by tr a u
    (inr (e, λ r. n ((replied_is_read occupied last es tr u ((reached_good occupied last es).0.sound.fits a u e)).0 r), λ w c. m w ((completes_is_read occupied last es tr w a).0 c)))

-- by the events alone, in the scope's numbers
pub lookup_by_story : (occupied : Pool) (last : ℕ) (es : List Event) (a : ℕ) → a < 128 → lookup_number (looked_up (run occupied last es) a) ≡ number_of ((story occupied last es).known.held a)
lookup_by_story occupied last es a h = lookup_by_table occupied last es a h ∙ ap (λ (w : Story). number_of (w.known.held a)) (table_is_story occupied last es)

-- ---- by the story

module _ (occupied : Pool) (last : ℕ) (es : List Event) (by : By) (tr : List ℕ) where
  -- EACH COMMAND, CHOICE OR END that a step or its first half hands out is given by the events
  pub handed_out_by_story : (heard by (run occupied last es) tr).command ≡ next_by by occupied (story occupied last es).known (story occupied last es).picked (story occupied last es).gets (story occupied last es).command tr
  handed_out_by_story = heard_by_table occupied last es by tr ∙ ap (λ (w : Story). next_by by occupied w.known w.picked w.gets w.command tr) (table_is_story occupied last es)

  -- 21, exactly if no command was handed out last
  pub step_21_by_story : (command_number (heard by (run occupied last es) tr).command ≡ (21, []) ∷ []) ↔ (no_command (story occupied last es).command ≡ true)
  step_21_by_story =
      subst (λ (w : Story). (command_number (heard by (run occupied last es) tr).command ≡ (21, []) ∷ []) ↔ (no_command w.command ≡ true)) (table_is_story occupied last es)
      (step_21_by_events occupied last es by tr)

  -- 13 with an identifier, exactly if the single step gives it
  pub heard_13 : (u : Udid) → (command_number (heard by (run occupied last es) tr).command ≡ (13, u ∷ []) ∷ []) ↔ ((stepped (run occupied last es) tr).command ≡ Wait (NoneFree u))
  heard_13 u = (
    λ e. (let k = number_13_is_none_free (heard by (run occupied last es) tr).command u e in sym (sends_the_same by (run occupied last es) tr) ∙ ap sending k),
    λ e. back_to (heard by (run occupied last es) tr) (stepped (run occupied last es) tr) (heard_halved by (run occupied last es) tr) e,
  )
    where
      back_to : (r q : Stepped) → Halved r q → q.command ≡ Wait (NoneFree u) → command_number r.command ≡ (13, u ∷ []) ∷ []
      back_to r q (inl (e, n)) k = ap (λ (x : Stepped). command_number x.command) e ∙ ap command_number k
      back_to r q (inr (v, a, x, e, f)) k = let z : Send (Assign v a) ≡ Wait (NoneFree u) = sym (ap (λ (x : Stepped). x.command) f) ∙ k in zero_is_one (cc z)

  -- A TRACE LEAVES A BINDING as it is, but for a reply with its identifier, or a complete Assign of its address
  pub binding_stays_by_story : (a : ℕ) (u : Udid) → held_at (run occupied last es).slots a ≡ Bound u → (read_as (story occupied last es).command tr ≡ Replied u → ⊥)
      → ((w : Udid) → read_as (story occupied last es).command tr ≡ Assigned w a → ⊥) → held_at (run occupied last (Received by tr ∷ es)).slots a ≡ Bound u
  binding_stays_by_story a u e n m =
      let q : handed_out occupied last es ≡ (story occupied last es).command = (state_by_story occupied last es).command in
      binding_stays occupied last es by tr a u e (λ k. n (ap (λ (x : Handed). read_as x tr) (sym q) ∙ k)) (λ w k. m w (ap (λ (x : Handed). read_as x tr) (sym q) ∙ k))

-- ---- ALL OF IT: from any new controller, over any starts, traces, reports, issues and declines

pub by_history : (occupied : Pool) (last : ℕ) (es : List Event) → ByHistory occupied last es
by_history occupied last es = record {
  told = state_by_story occupied last es;
  lookup = λ a h. lookup_by_story occupied last es a h;
  no_address = λ a h. (lookup_1 (run occupied last es) a).1 h;
  next = λ by tr. handed_out_by_story occupied last es by tr;
  refused = λ by tr. step_21_by_story occupied last es by tr;
  full = λ by tr u f. (
    λ e. (step_13_by_story occupied last es tr u f).0 ((heard_13 occupied last es by tr u).0 e),
    λ w. (heard_13 occupied last es by tr u).1 ((step_13_by_story occupied last es tr u f).1 w),
  );
  stays = λ by tr a u e n m. (let w = (lookup_0 (run occupied last es) a u).0 e in (lookup_0 (run occupied last (Received by tr ∷ es)) a u).1 (w.0, binding_stays_by_story occupied last es by tr a u w.1 n m));
}

-- ---- Get UDID, and starts

-- GET UDID AND ITS LIMIT: with fewer than 128 handed out in this pass it is Get UDID, with 128 it is 14
pub get_udid_limit : (n : ℕ) → (n < 128 → again n ≡ Send GetUdid) × (128 ≤ n → again n ≡ Wait Abandoned)
get_udid_limit n = (λ h. rw (lt-leb 128 n h), λ h. rw (le-leb 128 n h))

-- FROM EVERY STATE a start hands out Prepare; lookup of every address is 15 then, the pool is the starting one, no Get UDID is counted, and
-- the last pick stays
pub start_by_history : (s : Controller) → ((started s).command ≡ Send Prepare) × ((started s).state.last ≡ Send Prepare)
    × ((a : ℕ) → a < 128 → lookup_number (looked_up (started s).state a) ≡ (15, [])) × ((started s).state.pool ≡ starting_pool s.occupied) × ((started s).state.occupied ≡ s.occupied)
    × ((started s).state.gets ≡ 0) × ((started s).state.picked ≡ s.picked)
start_by_history s = (refl, refl, λ a h. (lookup_15 (started s).state a).1 (h, open_all a), refl, refl, refl, refl)

-- and that has the 35 listed addresses and the occupied ones, and no other
pub pool_at_start : (occupied : Pool) (last : ℕ) (es : List Event) (a : ℕ) → member (started (run occupied last es)).state.pool a ≡ or (is_listed a) (member occupied a)
pool_at_start occupied last es a = ap (λ (o : Pool). member (starting_pool o) a) (reached_good occupied last es).0.occupies ∙ member_starting occupied a
