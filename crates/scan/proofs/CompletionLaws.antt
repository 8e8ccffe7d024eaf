-- From every state that the decoder reaches and that is not cut, some symbols lead to the end of a whole trace: zeros, and the least counts.
use Rattle.std.specs.Prelude.{◌≡◌, Bool, true, false, List, [], ◌∷◌, ◌++◌, ℕ, suc, ◌+◌, ◌≤◌, ◌<◌, ◌%◌, ◌/◌, length, replicate, ltb, eqb, Ok}
use Rattle.std.proofs.Math.Path.{refl, subst}
use Rattle.std.proofs.Common.{◌∙◌, arith, eq-eqb}
use Rattle.std.proofs.lemmas.List.{length-replicate}
use Rattle.lists.specs.Choice.{pick, and}
use Rattle.lists.specs.Each.{Bytes}
use Rattle.lists.specs.EachLaws.{zeros_bytes}
use Rattle.wire.specs.Addresses.{host_address}
use Rattle.wire.specs.Symbols.{START, STOP, ACK, NACK}
use Rattle.pec.specs.Pec.{pec_step, pec_from}
use Rattle.trace.specs.declared.shape.Part.{Part}
use Rattle.trace.specs.declared.shape.Part.TheVariants.{Nothing, Fixed, Counted}
use Rattle.trace.specs.declared.shape.Shape.{Shape}
use Rattle.trace.specs.Shapes.{writes, reads, least_of}
use Rattle.trace.specs.Trace.{W, R, acked, nacked, in_place}
use Rattle.trace.specs.Sane.{Sane}
use Rattle.step.specs.declared.next.Aim.{Aim}
use Rattle.step.specs.declared.state.Slot.{Slot}
use Rattle.step.specs.declared.state.Slot.TheVariants.{Start, First, Command, Count, Data, Pec, Restart, Second, ReadCount, ReadData, ReadPec, Stop, End}
use Rattle.step.specs.declared.state.Due.TheVariants.{Nobody, Target, Controller}
use Rattle.step.specs.declared.state.Decoder.{Decoder}
use Rattle.step.specs.State.{to, state}
use Rattle.step.specs.Next.{to_read_data, to_read, after_write, to_data, to_sent, after_first}
use Rattle.step.specs.Fits.{ack_at, first_fits, command_fits, fits_slot}
use Rattle.step.specs.Move.{at, move_slot}
use Rattle.scan.specs.Run.{run}
use Rattle.scan.specs.Ends.{Ends}
use Rattle.scan.proofs.RunLaws.{run_append, run_from}
use Rattle.scan.specs.Leads.{no_controller, no_target}
use Rattle.scan.proofs.LeadLaws.{leads_run, leads_byte}
use Rattle.scan.proofs.ForwardLaws.{to_data_lem, to_read_data_lem, target_ack_leads, data_leads, count_leads, count_test, received_leads, read_count_leads}
use Rattle.scan.specs.Roomy.{AtCount, Roomy}
use Rattle.scan.proofs.RoomyLaws.{least_of_le}

pub zero_byte : (p : Bool) → Bytes (in_place p 0)
zero_byte true = (omega arith, tt)
zero_byte false = tt

-- an address byte that can stand first
way : Shape → ℕ
way sh = pick sh.tohost (pick (writes sh) (W host_address) (R host_address)) (pick (writes sh) (W 0) (R 0))

way_byte : (sh : Shape) → way sh < 256
unfolding way
way_byte sh = go sh.tohost (writes sh)
  where
    go : (o w : Bool) → pick o (pick w (W host_address) (R host_address)) (pick w (W 0) (R 0)) < 256
    go true true = omega arith
    go true false = omega arith
    go false true = omega arith
    go false false = omega arith

way_fits_lem : (sh : Shape) → first_fits sh (way sh) ≡ true
unfolding way
way_fits_lem sh = go sh.tohost (writes sh) (reads sh)
  where
    x : Bool → Bool → ℕ
    x o w = pick o (pick w (W host_address) (R host_address)) (pick w (W 0) (R 0))

    go : (o w r : Bool) → and (ltb (x o w) 256) (and (pick o (eqb (x o w / 2) host_address) (ltb (x o w / 2) 128)) (pick w (eqb (x o w % 2) 0) (pick r (eqb (x o w % 2) 1) true))) ≡ true
    go true true r = refl
    go true false true = refl
    go true false false = refl
    go false true r = refl
    go false false true = refl
    go false false false = refl

-- the command 0 is any shape's
zero_fits : (sh : Shape) → command_fits sh 0 ≡ true
zero_fits sh = go sh.tohost
  where
    go : (o : Bool) → pick o (eqb (0 % 2) 0) true ≡ true
    go true = refl
    go false = refl

module _ (sh : Shape) (hs : Sane sh) (p : Bool) where
  ends_via : (xs : List ℕ) (d m : Decoder) → run sh p d 0 xs ≡ Ok m → Ends sh p m → Ends sh p d
  ends_via xs d m q w =
      record { rest = xs ++ w.rest; last = w.last; leads = run_append sh p xs w.rest d m 0 q ∙ run_from sh p w.rest m w.last 0 (0 + length xs) w.leads; slot = w.slot; due = w.due }

  -- a byte, and the target's ACK
  byte_step : (g h : Aim) (x z f c m n y e b l : ℕ) (ok : Bool) → x < 256 → fits_slot sh g.slot (state g Nobody z f c m n ok) x ≡ true
      → move_slot sh p g.slot (state g Nobody z f c m n ok) x ≡ state h Target y e b l n ok
      → run sh p (state g Nobody z f c m n ok) 0 (x ∷ ACK ∷ []) ≡ Ok (state h Nobody y e b l n ok)
  byte_step g h x z f c m n y e b l ok k t q =
      leads_run no_controller sh p (x ∷ ACK ∷ []) _ _ 0
      (leads_byte no_controller sh p g z f c m n ok x (ACK ∷ []) _ k refl t (rw q (target_ack_leads sh p h y e b l n ok)))

  ends_read_data : (k z f c m n : ℕ) (ok : Bool) → Ends sh p (state (to_read_data p k) Nobody z f c m n ok)
  ends_read_data k z f c m n ok =
      let r : List ℕ = replicate k 0 in
      let ys : List ℕ = nacked (r ++ in_place p 0) ++ STOP ∷ [] in
      let e : Decoder = state (to End 0) Nobody (pec_from z r) f c m n (pick p (eqb 0 (pec_from z r)) ok) in
      let q : run sh p (state (to_read_data p (length r)) Nobody z f c m n ok) 0 ys ≡ Ok e =
      leads_run no_target sh p ys _ e 0 (received_leads sh p r 0 z f c m n ok (zeros_bytes k) (zero_byte p)) in
      record { rest = ys; last = e; leads = subst (λ (j : ℕ). run sh p (state (to_read_data p j) Nobody z f c m n ok) 0 ys ≡ Ok e) (length-replicate k 0) q; slot = refl; due = refl }

  ends_read_count : (k z f c m n : ℕ) (ok : Bool) → m + sh.least ≤ sh.most → Ends sh p (state (to ReadCount k) Nobody z f c m n ok)
  ends_read_count k z f c m n ok h =
      let x : ℕ = sh.least in
      let w : ℕ = ack_at (to_read_data p x).slot in
      ends_via (x ∷ w ∷ []) _ _
      (leads_run no_target sh p (x ∷ w ∷ []) _ _ 0 (read_count_leads sh p k x z f c m n ok w (omega (arith, hs.most_byte)) (count_test sh m x (omega arith) (omega arith)) refl))
      (ends_read_data x (pec_step z x) f c m x ok)

  ends_read : (a : Part) (z f c m n : ℕ) (ok : Bool) → m + least_of a sh.least ≤ sh.most → Ends sh p (state (to_read a p) Nobody z f c m n ok)
  ends_read Nothing z f c m n ok h = ends_read_data 0 z f c m n ok
  ends_read (Fixed k) z f c m n ok h = ends_read_data k z f c m n ok
  ends_read Counted z f c m n ok h = ends_read_count 0 z f c m n ok h

  ends_stop : (k z f c m n : ℕ) (ok : Bool) → Ends sh p (state (to Stop k) Nobody z f c m n ok)
  unfolding run
  ends_stop k z f c m n ok = record { rest = STOP ∷ []; last = state (to End 0) Nobody z f c m n ok; leads = refl; slot = refl; due = refl }

  ends_pec : (k z f c m n : ℕ) (ok : Bool) → Ends sh p (state (to Pec k) Nobody z f c m n ok)
  unfolding run
  ends_pec k z f c m n ok = record { rest = 0 ∷ ACK ∷ STOP ∷ []; last = state (to End 0) Nobody z f c m n (eqb 0 z); leads = refl; slot = refl; due = refl }

  ends_read_pec : (k z f c m n : ℕ) (ok : Bool) → Ends sh p (state (to ReadPec k) Nobody z f c m n ok)
  unfolding run
  ends_read_pec k z f c m n ok = record { rest = 0 ∷ NACK ∷ STOP ∷ []; last = state (to End 0) Nobody z f c m n (eqb 0 z); leads = refl; slot = refl; due = refl }

  module _ (m : ℕ) (h : m + least_of sh.received sh.least ≤ sh.most) where
    ends_second : (k z f c n : ℕ) (ok : Bool) → Ends sh p (state (to Second k) Nobody z f c m n ok)
    ends_second k z f c n ok =
        let x : ℕ = (f + 1) % 256 in
        ends_via (x ∷ ACK ∷ []) _ _ (byte_step (to Second k) (to_read sh.received p) x z f c m n (pec_step z x) f c m ok (omega arith) (eq-eqb x x refl) refl)
        (ends_read sh.received (pec_step z x) f c m n ok h)

    ends_restart : (k z f c n : ℕ) (ok : Bool) → Ends sh p (state (to Restart k) Nobody z f c m n ok)
    unfolding run
    ends_restart k z f c n ok = ends_via (START ∷ []) _ _ refl (ends_second 0 z f c n ok)

    ends_after : (z f c n : ℕ) (ok : Bool) → Ends sh p (state (after_write sh p) Nobody z f c m n ok)
    ends_after z f c n ok = go (reads sh) (writes sh) p
      where
        go : (r w q : Bool) → Ends sh p (state (pick r (pick w (to Restart 0) (to_read sh.received p)) (to (pick q Pec Stop) 0)) Nobody z f c m n ok)
        go true true q = ends_restart 0 z f c n ok
        go true false q = ends_read sh.received z f c m n ok h
        go false w true = ends_pec 0 z f c m n ok
        go false w false = ends_stop 0 z f c m n ok

    ends_data : (k z f c n : ℕ) (ok : Bool) → Ends sh p (state (to_data sh p k) Nobody z f c m n ok)
    ends_data k z f c n ok =
        let r : List ℕ = replicate k 0 in
        let e : Decoder = state (after_write sh p) Nobody (pec_from z r) f c m n ok in
        let q : run sh p (state (to_data sh p (length r)) Nobody z f c m n ok) 0 (acked r) ≡ Ok e =
        leads_run no_controller sh p (acked r) _ e 0 (data_leads sh p r z f c m n ok (zeros_bytes k)) in
        ends_via (acked r) (state (to_data sh p k) Nobody z f c m n ok) e
        (subst (λ (j : ℕ). run sh p (state (to_data sh p j) Nobody z f c m n ok) 0 (acked r) ≡ Ok e) (length-replicate k 0) q) (ends_after (pec_from z r) f c n ok)

  ends_count : (k z f c m n : ℕ) (ok : Bool) → Ends sh p (state (to Count k) Nobody z f c m n ok)
  ends_count k z f c m n ok =
      let x : ℕ = sh.least in
      let h : x + least_of sh.received sh.least ≤ sh.most = omega (arith, hs.least_twice, least_of_le sh.received sh.least) in
      ends_via (x ∷ ACK ∷ []) _ _
      (leads_run no_controller sh p (x ∷ ACK ∷ []) _ _ 0 (count_leads sh p k x z f c m n ok (omega (arith, hs.most_byte)) (count_test sh (least_of sh.received sh.least) x (omega arith) h)))
      (ends_data x h x (pec_step z x) f c n ok)

  module _ (m : ℕ) (h : m + least_of sh.received sh.least ≤ sh.most) where
    ends_sent : (a : Part) (z f c n : ℕ) (ok : Bool) → Ends sh p (state (to_sent sh p a) Nobody z f c m n ok)
    ends_sent Nothing z f c n ok = ends_after m h z f c n ok
    ends_sent (Fixed k) z f c n ok = ends_data m h k z f c n ok
    ends_sent Counted z f c n ok = ends_count 0 z f c m n ok

    ends_command : (k z f c n : ℕ) (ok : Bool) → Ends sh p (state (to Command k) Nobody z f c m n ok)
    ends_command k z f c n ok =
        ends_via (0 ∷ ACK ∷ []) _ _ (byte_step (to Command k) (to_sent sh p sh.sent) 0 z f c m n (pec_step z 0) f 0 m ok (omega arith) (zero_fits sh) refl)
        (ends_sent sh.sent (pec_step z 0) f 0 n ok)

    ends_after_first : (b : Bool) (z f c n : ℕ) (ok : Bool) → Ends sh p (state (pick b (to Command 0) (to_sent sh p sh.sent)) Nobody z f c m n ok)
    ends_after_first true z f c n ok = ends_command 0 z f c n ok
    ends_after_first false z f c n ok = ends_sent sh.sent z f c n ok

    ends_first : (k z f c n : ℕ) (ok : Bool) → Ends sh p (state (to First k) Nobody z f c m n ok)
    ends_first k z f c n ok =
        let x : ℕ = way sh in
        ends_via (x ∷ ACK ∷ []) _ _ (byte_step (to First k) (after_first sh p) x z f c m n (pec_step z x) x c m ok (way_byte sh) (way_fits_lem sh) refl)
        (ends_after_first sh.command (pec_step z x) x c n ok)

    ends_slot : (s : Slot) (k z f c n : ℕ) (ok : Bool) → AtCount sh s m → Ends sh p (state (to s k) Nobody z f c m n ok)
    unfolding run
    ends_slot Start k z f c n ok g = ends_via (START ∷ []) _ _ refl (ends_first 0 z f c n ok)
    ends_slot First k z f c n ok g = ends_first k z f c n ok
    ends_slot Command k z f c n ok g = ends_command k z f c n ok
    ends_slot Count k z f c n ok g = ends_count k z f c m n ok
    ends_slot Data k z f c n ok g = subst (λ (i : Aim). Ends sh p (state i Nobody z f c m n ok)) (to_data_lem sh p k) (ends_data m h (suc k) z f c n ok)
    ends_slot Pec k z f c n ok g = ends_pec k z f c m n ok
    ends_slot Restart k z f c n ok g = ends_restart m h k z f c n ok
    ends_slot Second k z f c n ok g = ends_second m h k z f c n ok
    ends_slot ReadCount k z f c n ok g = ends_read_count k z f c m n ok g
    ends_slot ReadData k z f c n ok g = subst (λ (i : Aim). Ends sh p (state i Nobody z f c m n ok)) (to_read_data_lem p k) (ends_read_data (suc k) z f c m n ok)
    ends_slot ReadPec k z f c n ok g = ends_read_pec k z f c m n ok
    ends_slot Stop k z f c n ok g = ends_stop k z f c m n ok
    ends_slot End k z f c n ok g = record { rest = []; last = state (to End k) Nobody z f c m n ok; leads = refl; slot = refl; due = refl }

  -- after the ACK that is due
  pub acknowledged_ends : (d : Decoder) → Roomy sh d → Ends sh p (at d d.slot Nobody d.left)
  acknowledged_ends d h = ends_slot d.sentcount h.room d.slot d.left d.pec d.first d.command d.readcount d.good h.ahead

  own_step : (d : Decoder) → run sh p (at d d.slot Controller d.left) 0 (ack_at d.slot ∷ []) ≡ Ok (at d d.slot Nobody d.left)
  unfolding run
  own_step d = rw (eq-eqb (ack_at d.slot) (ack_at d.slot) refl)

  pub controller_due_ends : (d : Decoder) → Roomy sh d → Ends sh p (at d d.slot Controller d.left)
  controller_due_ends d h = ends_via (ack_at d.slot ∷ []) _ _ (own_step d) (acknowledged_ends d h)

  pub target_due_ends : (d : Decoder) → Roomy sh d → Ends sh p (at d d.slot Target d.left)
  unfolding run
  target_due_ends d h = ends_via (ACK ∷ []) _ _ refl (acknowledged_ends d h)
