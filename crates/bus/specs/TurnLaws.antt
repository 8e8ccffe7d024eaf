-- The code's turn over the records' bytes is the bus's turn over their targets.
use Rattle.std.specs.Prelude.{ℕ, ◌+◌, ◌*◌, ◌-◌, ◌≤◌, ◌<◌, ◌≡◌, refl, Bool, true, false, Some, None, List, [], ◌∷◌, length, take, drop}
use Rattle.std.proofs.Common.{sym, ap, ◌∙◌, subst, arith}
use Rattle.lists.specs.Each.{Bytes}
use Rattle.lists.specs.LengthLaws.{empty_of_length}
use Rattle.trace.specs.Shapes.{shape_of}
use Rattle.trace.specs.Lengths.{trace_length}
use Rattle.trace.proofs.LengthLaws.{trace_length_lem}
use Rattle.arbitration.specs.Among.{Among}
use Rattle.udid.specs.Udids.{Fits}
use Rattle.udid.specs.declared.Udid.{Udid}
use Rattle.wire.specs.declared.address.Address.{Address}
use Rattle.targets.specs.ChangeLaws.{assigned_below}
use Rattle.targets.specs.IndexLaws.{target_has_record, length_targets, sized_at, record_reply}
use Rattle.targets.specs.Records.{target_at, record_count, targets_of, records_with, assigned_in}
use Rattle.targets.specs.RecordLaws.{put_all_self}
use Rattle.targets.specs.ReplyLaws.{length_reply_data, bytes_reply_data}
use Rattle.targets.specs.Target.{Target, is_resolved}
use Rattle.targets.specs.Winner.{winner_of, Wins}
use Rattle.targets.specs.WinnerLaws.{winner_exactly, winner_least, unresolved_by_flag}
use Rattle.commands.specs.RequestLaws.{assign_has_44_symbols}
use Rattle.commands.specs.SendingLaws.{assign_sent}
use Rattle.arp.specs.Controller.{stepped}
use Rattle.commands.specs.Requests.{message_of, trace_of}
use Rattle.commands.specs.declared.command.Command.TheVariants.{Prepare, GetUdid, Assign}
use Rattle.commands.specs.declared.command.Handed.{Handed}
use Rattle.commands.specs.declared.command.Handed.TheVariants.{Send, Wait}
use Rattle.arp.specs.declared.state.Stepped.{Stepped}
use Rattle.rule.specs.Acknowledge.{on_bus}
use Rattle.rule.specs.Bus.{reached}
use Rattle.rule.specs.Acted.{acted, Names}
use Rattle.rule.specs.EffectLaws.{effect_as_meant}
use Rattle.rule.specs.TraceLaws as on-bus
use Rattle.bus.specs.Going.{Going}
use Rattle.bus.specs.RecordsBusLaws.{reached_stored}
use Rattle.bus.specs.Turn.{Fit, Reaches, silence, Writes, sent_to, Matches, lent_part, Lent}

-- ---- the traces

pub no_targets : (s : List ℕ) → record_count s ≡ 0 → targets_of s ≡ []
no_targets s e = empty_of_length (targets_of s) (length_targets s (record_count s) 0 ∙ e)

-- Prepare To ARP, with no target and with some
pub prepare_nobody : (s : List ℕ) → record_count s ≡ 0 → on_bus (Send Prepare) (targets_of s) ≡ 256 ∷ 0xC2 ∷ 259 ∷ 257 ∷ []
prepare_nobody s e = ap (on_bus (Send Prepare)) (no_targets s e) ∙ on-bus.prepare_cut

pub prepare_all : (s : List ℕ) → (record_count s ≡ 0 → ⊥) → on_bus (Send Prepare) (targets_of s) ≡ trace_of (Send Prepare) []
prepare_all s n = go (targets_of s) (length_targets s (record_count s) 0)
  where
    go : (ts : List Target) → length ts ≡ record_count s → on_bus (Send Prepare) ts ≡ trace_of (Send Prepare) []
    go [] e = absurd (n (sym e))
    go (t ∷ ts) e = on-bus.prepare_whole t ts

-- Get UDID: the winner's reply, or silence
pub get_winner : (s : List ℕ) → Bytes s → Fit s → (w : ℕ) → Some w ≡ winner_of s → on_bus (Send GetUdid) (targets_of s) ≡ trace_of (Send GetUdid) (take 17 (drop (w * 18) s))
get_winner s b f w e =
    let v : Wins s (record_count s) w = (winner_exactly s (Some w)).0 e in
    on-bus.get_whole (targets_of s) (target_at s w) (winner_least s b f.apart w v)
    ∙ ap (trace_of (Send GetUdid)) (sym (record_reply s w b (omega (arith, v.below, f.whole))))

all_resolved : (s : List ℕ) → Bytes s → Fit s → None ≡ winner_of s → (t : Target) → Among t (targets_of s) → is_resolved t ≡ true
all_resolved s b f e t m = go (is_resolved t) refl
  where
    go : (c : Bool) → is_resolved t ≡ c → is_resolved t ≡ true
    go true q = q
    go false q =
        let r = target_has_record s (record_count s) 0 t m in
        absurd ((winner_exactly s None).0 e r.0 (omega (arith, r.2)) (unresolved_by_flag s b f.apart r.0 t r.3 q))

pub get_silence : (s : List ℕ) → Bytes s → Fit s → 0 < length (targets_of s) → None ≡ winner_of s → on_bus (Send GetUdid) (targets_of s) ≡ silence
get_silence s b f h e = go (targets_of s) h (all_resolved s b f e)
  where
    go : (ts : List Target) → 0 < length ts → ((t : Target) → Among t ts → is_resolved t ≡ true) → on_bus (Send GetUdid) ts ≡ silence
    go [] l k = absurd (omega arith)
    go (t ∷ ts) l k = on-bus.get_cut t ts k

-- ---- the lengths of the traces

pub prepare_length : length (trace_of (Send Prepare) []) ≡ 8
unfolding trace_length
prepare_length = trace_length_lem (shape_of 1) true (message_of (Send Prepare) [])

pub get_length : (xs : List ℕ) → length xs ≡ 17 → length (trace_of (Send GetUdid) xs) ≡ 47
unfolding trace_length
get_length xs e = trace_length_lem (shape_of 9) true (message_of (Send GetUdid) xs) ∙ omega (arith, e)

-- ---- what a command does to the records

-- the identifiers of records are numbers of 128 bits, and so is that of a command which reaches one of them
fits_targets : (s : List ℕ) → Bytes s → (t : Target) → Among t (targets_of s) → Fits t.udid
fits_targets s b t m = let r = target_has_record s (record_count s) 0 t m in subst (λ (x : Target). Fits x.udid) r.3 (sized_at s b r.0).udid

reached_names_fit : (k : Handed) (s : List ℕ) → Bytes s → Reaches k (targets_of s) → Names k
reached_names_fit (Send (Assign u a)) s b r = subst Fits r.2 (fits_targets s b r.0 r.1)
reached_names_fit (Send Prepare) s b r = tt
reached_names_fit (Send GetUdid) s b r = tt
reached_names_fit (Wait e) s b r = tt

-- the symbols on the bus do to the targets what the command means
pub reached_as_meant : (k : Handed) (s : List ℕ) → Bytes s → Reaches k (targets_of s) → reached (on_bus k (targets_of s)) (targets_of s) ≡ acted k (targets_of s)
reached_as_meant k s b r = effect_as_meant k (targets_of s) (reached_names_fit k s b r) (fits_targets s b)

-- a command sent: the controller's step took what stood on the bus, and the targets acted
pub sent_matches : (st r : Stepped) (s after tr : List ℕ) → Bytes s → Fit s → Going st s → tr ≡ on_bus st.command (targets_of s) → r ≡ stepped st.state tr
    → after ≡ records_with (acted st.command (targets_of s)) s → Matches (sent_to st (targets_of s) st.command) r s after
sent_matches st r s after tr b f n e q g =
    let w : after ≡ records_with (reached (on_bus st.command (targets_of s)) (targets_of s)) s =
    g ∙ ap (λ (ts : List Target). records_with ts s) (sym (reached_as_meant st.command s b n.reaches)) in
    record { controller = q ∙ ap (stepped st.state) e; targets = ap targets_of w ∙ reached_stored (on_bus st.command (targets_of s)) s; stored = w }

-- records that stay as they are
pub own_targets_stored : (s : List ℕ) → s ≡ records_with (targets_of s) s
own_targets_stored s = sym (put_all_self (record_count s) 0 s)

-- the winner's record is one of the list
pub winner_inside : (s : List ℕ) → Fit s → (w : ℕ) → Some w ≡ winner_of s → w * 18 + 18 ≤ length s
winner_inside s f w e = let v : Wins s (record_count s) w = (winner_exactly s (Some w)).0 e in omega (arith, v.below, f.whole)

part_of_17 : (s : List ℕ) (at : ℕ) → take (at + 17 - at) (drop at s) ≡ take 17 (drop at s)
part_of_17 s at = let e : at + 17 - at ≡ 17 = omega arith in ap (λ (n : ℕ). take n (drop at s)) e

pub winner_part_lent : (s : List ℕ) → Bytes s → Fit s → (w : ℕ) → Some w ≡ winner_of s → Lent (lent_part s w)
winner_part_lent s b f w e =
    subst Lent (sym (part_of_17 s (w * 18) ∙ record_reply s w b (omega (arith, winner_inside s f w e))))
    (record { bytes = bytes_reply_data (target_at s w) (sized_at s b w).address_byte; long = length_reply_data (target_at s w) })

pub get_winner_part : (s : List ℕ) → Bytes s → Fit s → (w : ℕ) → Some w ≡ winner_of s
    → on_bus (Send GetUdid) (targets_of s) ≡ trace_of (Send GetUdid) (lent_part s w)
get_winner_part s b f w e = get_winner s b f w e ∙ ap (trace_of (Send GetUdid)) (sym (part_of_17 s (w * 18)))

-- ---- an Assign, by the command that it is

pub assign_on_bus : (k : Handed) (u : Udid) (a : Address) → k ≡ Send (Assign u a) → (ts : List Target) → Reaches k ts → on_bus k ts ≡ trace_of k []
assign_on_bus k u a e ts h =
    let r : Reaches (Send (Assign u a)) ts = subst (λ (x : Handed). Reaches x ts) e h in
    ap (λ (x : Handed). on_bus x ts) e ∙ on-bus.assign_whole ts u a r.0 r.1 r.2 ∙ ap (λ (x : Handed). trace_of x []) (sym e)

pub assign_length_44 : (k : Handed) (u : Udid) (a : Address) → k ≡ Send (Assign u a) → length (trace_of k []) ≡ 44
assign_length_44 k u a e = ap (λ (x : Handed). length (trace_of x [])) e ∙ assign_has_44_symbols u a

pub assign_written : (k : Handed) (u : Udid) (a : Address) → k ≡ Send (Assign u a) → (ts : List Target) → Reaches k ts → (before : List ℕ) → 64 ≤ length before → Writes k [] before
assign_written k u a e ts h before l =
    let r : Reaches (Send (Assign u a)) ts = subst (λ (x : Handed). Reaches x ts) e h in
    subst (λ (x : Handed). Writes x [] before) (sym e) (λ q after w. assign_sent u a [] before q after r.3 w (omega (arith, assign_has_44_symbols u a)))

-- what the targets' function leaves of the records
pub assign_acted : (k : Handed) (u : Udid) (a : Address) → k ≡ Send (Assign u a) → (s : List ℕ) → Reaches k (targets_of s) → assigned_in u a.0 s ≡ records_with (acted k (targets_of s)) s
assign_acted k u a e s h =
    let r : Reaches (Send (Assign u a)) (targets_of s) = subst (λ (x : Handed). Reaches x (targets_of s)) e h in
    assigned_below u a.0 s (omega (arith, r.3)) ∙ ap (λ (x : Handed). records_with (acted x (targets_of s)) s) (sym e)
