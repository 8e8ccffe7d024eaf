-- Get UDID on the bus of modules.
use Rattle.std.specs.Prelude.{ℕ, ◌≡◌, refl, Bool}
use Rattle.std.proofs.Common.{sym, ap₂, subst, ◌∙◌}
use Rattle.std.proofs.Math.Path.{ap}
use Rattle.std.proofs.Math.Bool.{true, false}
use Rattle.std.proofs.Math.Logic.{inl, inr}
use mathlib.Core.List.{List, [], ◌∷◌, ◌++◌, map}
use native.Mathlib.Omega.{arith}
use Rattle.lists.specs.Choice.{pick, not}
use Rattle.pec.specs.Pec.{pec_step}
use Rattle.wire.specs.Symbols.{START, ACK}
use Rattle.trace.specs.Trace.{acked}
use Rattle.arbitration.specs.Among.{Among}
use Rattle.targets.specs.Target.{Target}
use Rattle.commands.specs.SameTrace.{same}
use Rattle.commands.specs.declared.command.Command.TheVariants.{GetUdid}
use Rattle.commands.specs.declared.command.Handed.TheVariants.{Send}
use Rattle.rule.specs.Acknowledge.{begins, acknowledges, somebody, answered, standing, on_bus}
use Rattle.rule.specs.Acted.{acted}
use Rattle.rule.specs.TraceLaws.{one_acknowledges}
use Rattle.module.specs.declared.state.Heard.{Heard}
use Rattle.module.specs.declared.state.Lasting.{Lasting}
use Rattle.module.specs.declared.state.Module.{Module}
use Rattle.module.specs.declared.state.Phase.TheVariants.{Command, Asked, AskedAgain, Reply}
use Rattle.module.specs.Obeys.{heard_all}
use Rattle.module.specs.Receive.{for_write, for_read, starts, receives}
use Rattle.module.specs.State.{at, taken, refused}
use Rattle.module.proofs.SupplyLaws.{start_write, asked_general}
use Rattle.exchange.specs.AnsweringLaws.{answering, asking, get_ack, shows, read_same}
use Rattle.exchange.specs.Exchange.{record_of, records_of, hearing, any_ack, walk, reading, exchange}
use Rattle.exchange.specs.FrontLaws.{first, first_ack, front_follows}
use Rattle.exchange.specs.Sending.{started_again, asked_all}
use Rattle.exchange.specs.WalkLaws.{Follows, follows_ack, follows_nack}
use Rattle.exchange.specs.WalkLaws.{Abreast, any_same, next_same}
use Rattle.exchange.specs.WalkLaws.{Same, same_put, walk_start, walk_end, answered_start, answered_end, walked, walked_one}

-- ---- the bytes before the reply

-- PEC after C2h and 03h
abbrev two : ℕ
two = pec_step first 0x03

second_ack : (t : Target) → acknowledges (256 ∷ 194 ∷ 3 ∷ []) t ≡ true
unfolding acknowledges begins
second_ack t = refl

command_step : (o : Lasting) (c : ℕ) → receives (at o Command 0 c 0) 0x03 ≡ taken o Asked 0 (pec_step c 0x03) 0
unfolding receives
command_step o c = refl

again_step : (o : Lasting) (c : ℕ) → starts (at o Asked 0 c 0) ≡ at o AskedAgain 0 c 0
unfolding starts
again_step o c = refl

read_step : (o : Lasting) (c : ℕ) → receives (at o AskedAgain 0 c 0) for_read ≡ pick o.resolved (refused o) (taken o Reply 0 (pec_step c for_read) 0)
unfolding receives
read_step o c = refl

get_follows : (m : Module) → Follows (256 ∷ []) (record_of m) (record_of m) (194 ∷ 3 ∷ []) (starts m)
get_follows m =
    let o = m.own in
    let t = record_of m in
    front_follows m t (3 ∷ [])
    (follows_ack (256 ∷ 194 ∷ []) t t 3 [] (at o Command 0 first 0) (at o Asked 0 two 0) (command_step o first) (second_ack t) refl)

-- a module after them and the repeated START
abbrev again : Module → Module
again m = starts (hearing 0x03 (hearing for_write (starts m)))

again_is : (m : Module) → again m ≡ at m.own AskedAgain 0 two 0
again_is m =
    ap (λ (h : Heard). starts (hearing 0x03 h.after)) (start_write m)
    ∙ ap (λ (h : Heard). starts h.after) (command_step m.own first)
    ∙ again_step m.own two

read_follows : (m : Module) → Follows (256 ∷ 194 ∷ 3 ∷ 256 ∷ []) (record_of m) (record_of m) (195 ∷ []) (again m)
read_follows m = subst (λ (x : Module). Follows (256 ∷ 194 ∷ 3 ∷ 256 ∷ []) t t (195 ∷ []) x) (sym (again_is m)) (go o.resolved refl)
  where
    o : Lasting
    o = m.own

    t : Target
    t = record_of m

    step : (b : Bool) → o.resolved ≡ b → receives (at o AskedAgain 0 two 0) 195 ≡ pick b (refused o) (taken o Reply 0 (pec_step two 195) 0)
    step b e = read_step o two ∙ ap (λ (z : Bool). pick z (refused o) (taken o Reply 0 (pec_step two 195) 0)) e

    go : (b : Bool) → o.resolved ≡ b → Follows (256 ∷ 194 ∷ 3 ∷ 256 ∷ []) t t (195 ∷ []) (at o AskedAgain 0 two 0)
    go true e = follows_nack (256 ∷ 194 ∷ 3 ∷ 256 ∷ []) t t 195 [] (at o AskedAgain 0 two 0) o (step true e) (get_ack m ∙ ap not e) refl refl
    go false e = follows_ack (256 ∷ 194 ∷ 3 ∷ 256 ∷ []) t t 195 [] (at o AskedAgain 0 two 0) (at o Reply 0 (pec_step two 195) 0) (step false e) (get_ack m ∙ ap not e) refl

front_abreast : (ms : List Module) → Abreast (256 ∷ []) (194 ∷ 3 ∷ []) (map starts ms) (records_of ms) (records_of ms)
front_abreast [] = tt
front_abreast (m ∷ ms) = (get_follows m, front_abreast ms)

read_abreast : (ms : List Module) → Abreast (256 ∷ 194 ∷ 3 ∷ 256 ∷ []) (195 ∷ []) (started_again ms) (records_of ms) (records_of ms)
read_abreast [] = tt
read_abreast (m ∷ ms) = (read_follows m, read_abreast ms)

answering_is : (m : Module) → hearing for_read (again m) ≡ answering m
unfolding heard_all
answering_is m = asked_general m

pub answering_all : (ms : List Module) → asked_all ms ≡ map answering ms
answering_all [] = refl
answering_all (m ∷ ms) = ap₂ ◌∷◌ (answering_is m) (answering_all ms)

-- ---- the whole

module _ (ms : List Module) where
  abbrev ts : List Target
  ts = records_of ms

  abbrev acks : List ℕ → Bool
  acks sent = somebody (acknowledges sent) ts

  ending : any_ack 195 (started_again ms) ≡ true → (a : Bool) → Same (walk reading a (asked_all ms) []) (answered acks asking [] (shows ms)) ts
  ending e a =
      rw (walk_end reading a (asked_all ms), answered_end acks asking (shows ms), answering_all ms)
      (read_same ms (sym (any_same (256 ∷ 194 ∷ 3 ∷ 256 ∷ []) 195 [] (started_again ms) ts ts (read_abreast ms)) ∙ e))

  -- the modules after C2h and 03h, and what is sent after them
  abbrev ns : List Module
  ns = map (hearing 0x03) (map (hearing for_write) (map starts ms))

  abbrev later : List ℕ
  later = START ∷ 195 ∷ ACK ∷ []

  second : (a : Bool) → Same (walk reading a ns later) (answered acks (256 ∷ 194 ∷ 3 ∷ []) later (shows ms)) ts
  second a =
      rw (walk_start reading a ns (195 ∷ ACK ∷ []), answered_start acks (256 ∷ 194 ∷ 3 ∷ []) (195 ∷ ACK ∷ []) (shows ms))
      (same_put START _ _ ts (walked_one reading (shows ms) [] ts ts (256 ∷ 194 ∷ 3 ∷ 256 ∷ []) 195 (started_again ms) (omega arith) (read_abreast ms) ending a))

  -- GET UDID: any modules, in any states
  pub get_same : Same (exchange (Send GetUdid) ms) (on_bus (Send GetUdid) ts) (acted (Send GetUdid) ts)
  unfolding exchange on_bus standing same
  get_same =
      rw (walk_start reading false ms (acked (194 ∷ 3 ∷ []) ++ later), answered_start acks [] (acked (194 ∷ 3 ∷ []) ++ later) (shows ms))
      (same_put START _ _ ts (walked reading (shows ms) later ts ts (256 ∷ []) (194 ∷ 3 ∷ []) (map starts ms) (omega arith, (omega arith, tt)) (front_abreast ms) second false))

  -- where one of them is not resolved the reply follows
  pub get_reads : (m : Module) → Among m ms → m.own.resolved ≡ false
      → exchange (Send GetUdid) ms
      ≡ record { trace = 256 ∷ 194 ∷ 258 ∷ 3 ∷ 258 ∷ 256 ∷ 195 ∷ 258 ∷ (reading (asked_all ms)).trace; modules = (reading (asked_all ms)).modules }
  unfolding exchange walk
  get_reads m i e =
      let r : Among (record_of m) ts = among_records ms i in
      let ms1 : List Module = map starts ms in
      let ms2 : List Module = map (hearing 0xC2) ms1 in
      let a : any_ack 0xC2 ms1 ≡ true =
      any_same (256 ∷ []) 194 (3 ∷ []) ms1 ts ts (front_abreast ms) ∙ one_acknowledges (acknowledges (256 ∷ 194 ∷ [])) ts (record_of m) r (first_ack (record_of m)) in
      let b : any_ack 0x03 ms2 ≡ true =
      any_same (256 ∷ 194 ∷ []) 3 [] ms2 ts ts (next_same (256 ∷ []) 194 (3 ∷ []) ms1 ts ts (front_abreast ms))
      ∙ one_acknowledges (acknowledges (256 ∷ 194 ∷ 3 ∷ [])) ts (record_of m) r (second_ack (record_of m)) in
      let c : any_ack 0xC3 (started_again ms) ≡ true =
      any_same (256 ∷ 194 ∷ 3 ∷ 256 ∷ []) 195 [] (started_again ms) ts ts (read_abreast ms)
      ∙ one_acknowledges (acknowledges asking) ts (record_of m) r (get_ack m ∙ ap not e) in
      rw (a, b, c)
    where
      among_records : (l : List Module) → Among m l → Among (record_of m) (records_of l)
      among_records [] x' = elim x' [ ]
      among_records (x ∷ l) (inl q) = inl (ap record_of q)
      among_records (x ∷ l) (inr q) = inr (among_records l q)
