-- The walk over the modules gives the trace of the model's bus, as long as each module acknowledges as its record does.
use Rattle.std.specs.Prelude.{ℕ, ◌<◌, ◌≡◌, Bool, true, false}
use Rattle.std.proofs.Math.Path.{refl, ap₂}
use Rattle.std.proofs.Common.{sym, ap, subst, ◌∙◌, arith, ne_eqb}
use mathlib.Core.List.{List, [], ◌∷◌, ◌++◌, map, append-nil, append_assoc}
use Rattle.lists.specs.Choice.{pick, or}
use Rattle.lists.specs.ChoiceLaws.{neither, not_both}
use Rattle.lists.specs.Each.{Each, Bytes}
use Rattle.wire.specs.Symbols.{START, STOP, ACK, NACK}
use Rattle.trace.specs.Trace.{acked}
use Rattle.targets.specs.Target.{Target, map_targets}
use Rattle.rule.specs.Acknowledge.{acknowledges, somebody, answered}
use Rattle.module.specs.declared.state.Heard.{Heard}
use Rattle.module.specs.declared.state.Lasting.{Lasting}
use Rattle.module.specs.declared.state.Module.{Module}
use Rattle.module.specs.Receive.{starts, receives, stops}
use Rattle.module.specs.State.{silent_in, refused}
use Rattle.module.proofs.SupplyLaws.{silent_nack}
use Rattle.exchange.specs.Exchange.{record_of, records_of, hearing, any_ack, Left, put, stop_all, walk}

-- ---- a module beside its record

-- after these symbols, m acknowledges the bytes bs as its record t does; at their end, and where it gives a NACK, its record is t', as it is to be
abbrev pub Follows : List ℕ → Target → Target → List ℕ → Module → Type 0
Follows sent t t' [] m = record_of m ≡ t'
Follows sent t t' (b ∷ bs) m =
    ((receives m b).ack ≡ acknowledges (sent ++ b ∷ []) t) × (((receives m b).ack ≡ false → record_of (hearing b m) ≡ t') × Follows (sent ++ b ∷ []) t t' bs (hearing b m))

module _ (sent : List ℕ) (t t' : Target) (b : ℕ) (bs : List ℕ) (m : Module) where
  follows_heard : (h : Heard) → receives m b ≡ h → h.ack ≡ acknowledges (sent ++ b ∷ []) t → (h.ack ≡ false → record_of h.after ≡ t')
      → Follows (sent ++ b ∷ []) t t' bs h.after → Follows sent t t' (b ∷ bs) m
  follows_heard h e p q r =
      subst (λ (x : Heard). (x.ack ≡ acknowledges (sent ++ b ∷ []) t) × ((x.ack ≡ false → record_of x.after ≡ t') × Follows (sent ++ b ∷ []) t t' bs x.after))
      (sym e) (p, (q, r))

  -- the byte gets ACK from both
  pub follows_ack : (m' : Module) → receives m b ≡ record { after = m'; ack = true } → acknowledges (sent ++ b ∷ []) t ≡ true
      → Follows (sent ++ b ∷ []) t t' bs m' → Follows sent t t' (b ∷ bs) m
  follows_ack m' e p r = follows_heard (record { after = m'; ack = true }) e (sym p) (λ f. not_both f refl) r

  -- it gets NACK from both
  pub follows_nack : (o : Lasting) → receives m b ≡ refused o → acknowledges (sent ++ b ∷ []) t ≡ false → record_of (silent_in o) ≡ t'
      → Follows (sent ++ b ∷ []) t t' bs (silent_in o) → Follows sent t t' (b ∷ bs) m
  follows_nack o e p q r = follows_heard (refused o) e (sym p) (λ f. q) r

-- a silent one, where its record acknowledges nothing either
pub silent_follows : (sent : List ℕ) (t t' : Target) (bs : List ℕ) (o : Lasting) → ((more : List ℕ) → acknowledges (sent ++ more) t ≡ false) → record_of (silent_in o) ≡ t'
    → Follows sent t t' bs (silent_in o)
silent_follows sent t t' [] o h e = e
silent_follows sent t t' (b ∷ bs) o h e =
    follows_nack sent t t' b bs (silent_in o) o (silent_nack o b) (h (b ∷ [])) e
    (silent_follows (sent ++ b ∷ []) t t' bs o (λ more. ap (λ (l : List ℕ). acknowledges l t) (append_assoc sent (b ∷ []) more) ∙ h (b ∷ more)) e)

-- ---- modules beside their records

abbrev pub Abreast : List ℕ → List ℕ → List Module → List Target → List Target → Type 0
Abreast sent bs [] [] [] = Unit
Abreast sent bs [] [] (t' ∷ ts') = ⊥
Abreast sent bs [] (t ∷ ts) ts' = ⊥
Abreast sent bs (m ∷ ms) [] ts' = ⊥
Abreast sent bs (m ∷ ms) (t ∷ ts) [] = ⊥
Abreast sent bs (m ∷ ms) (t ∷ ts) (t' ∷ ts') = Follows sent t t' bs m × Abreast sent bs ms ts ts'

-- each module follows, after what f made of it, and its record is to be as g makes it
pub abreast : (sent bs : List ℕ) (f : Module → Module) (g : Target → Target) (ms : List Module)
    → Each (λ (m : Module). Follows sent (record_of m) (g (record_of m)) bs (f m)) ms → Abreast sent bs (map f ms) (records_of ms) (map_targets g (records_of ms))
abreast sent bs f g [] h = tt
abreast sent bs f g (m ∷ ms) h = (h.0, abreast sent bs f g ms h.1)

module _ (sent : List ℕ) (b : ℕ) (bs : List ℕ) where
  pub any_same : (ms : List Module) (ts ts' : List Target) → Abreast sent (b ∷ bs) ms ts ts' → any_ack b ms ≡ somebody (acknowledges (sent ++ b ∷ [])) ts
  unfolding any_ack somebody
  any_same [] [] (t' ∷ ts') h = elim h [ ]
  any_same [] (t ∷ ts) _ h = elim h [ ]
  any_same (m ∷ ms) [] _ h = elim h [ ]
  any_same (m ∷ ms) (t ∷ ts) [] h = elim h [ ]
  any_same [] [] [] h = refl
  any_same (m ∷ ms) (t ∷ ts) (t' ∷ ts') h = ap₂ or h.0.0 (any_same ms ts ts' h.1)

  none_same : (ms : List Module) (ts ts' : List Target) → Abreast sent (b ∷ bs) ms ts ts' → any_ack b ms ≡ false → records_of (map stops (map (hearing b) ms)) ≡ ts'
  unfolding any_ack
  none_same [] [] (t' ∷ ts') h e = elim h [ ]
  none_same [] (t ∷ ts) _ h e = elim h [ ]
  none_same (m ∷ ms) [] _ h e = elim h [ ]
  none_same (m ∷ ms) (t ∷ ts) [] h e = elim h [ ]
  none_same [] [] [] h e = refl
  none_same (m ∷ ms) (t ∷ ts) (t' ∷ ts') h e =
      let f = neither (receives m b).ack (any_ack b ms) e in
      ap₂ (λ (x : Target) (l : List Target). x ∷ l) (h.0.1.0 f.0) (none_same ms ts ts' h.1 f.1)

  pub next_same : (ms : List Module) (ts ts' : List Target) → Abreast sent (b ∷ bs) ms ts ts' → Abreast (sent ++ b ∷ []) bs (map (hearing b) ms) ts ts'
  next_same [] [] (t' ∷ ts') h = elim h [ ]
  next_same [] (t ∷ ts) _ h = elim h [ ]
  next_same (m ∷ ms) [] _ h = elim h [ ]
  next_same (m ∷ ms) (t ∷ ts) [] h = elim h [ ]
  next_same [] [] [] h = tt
  next_same (m ∷ ms) (t ∷ ts) (t' ∷ ts') h = (h.0.1.1, next_same ms ts ts' h.1)

-- the modules after bytes
abbrev pub all_heard : List ℕ → List Module → List Module
all_heard [] ms = ms
all_heard (b ∷ bs) ms = all_heard bs (map (hearing b) ms)

abreast_end : (sent bs : List ℕ) (ms : List Module) (ts ts' : List Target) → Abreast sent bs ms ts ts' → records_of (all_heard bs ms) ≡ ts'
abreast_end sent [] [] [] (t' ∷ ts') h = elim h [ ]
abreast_end sent [] [] (t ∷ ts) ts' h = elim h [ ]
abreast_end sent [] (m ∷ ms) [] ts' h = elim h [ ]
abreast_end sent [] (m ∷ ms) (t ∷ ts) [] h = elim h [ ]
abreast_end sent [] [] [] [] h = refl
abreast_end sent [] (m ∷ ms) (t ∷ ts) (t' ∷ ts') h = ap₂ (λ (x : Target) (l : List Target). x ∷ l) h.0 (abreast_end sent [] ms ts ts' h.1)
abreast_end sent (b ∷ bs) ms ts ts' h = abreast_end (sent ++ b ∷ []) bs (map (hearing b) ms) ts ts' (next_same sent b bs ms ts ts' h)

pub records_silenced : (ms : List Module) → records_of (map stops ms) ≡ records_of ms
records_silenced [] = refl
records_silenced (m ∷ ms) = ap (λ (l : List Target). record_of m ∷ l) (records_silenced ms)

-- ---- the walk

-- what is left on the bus is this trace, with these records
pub record Same (l : Left) (tr : List ℕ) (ts : List Target) : Type 0 where
  pub trace : l.trace ≡ tr
  pub records : records_of l.modules ≡ ts

pub same_put : (x : ℕ) (l : Left) (tr : List ℕ) (ts : List Target) → Same l tr ts → Same (put x l) (x ∷ tr) ts
same_put x l tr ts s = record { trace = ap (λ (r : List ℕ). x ∷ r) s.trace; records = s.records }

pub walk_start : (rest : List Module → Left) (a : Bool) (ms : List Module) (xs : List ℕ) → walk rest a ms (START ∷ xs) ≡ put START (walk rest a (map starts ms) xs)
unfolding walk
walk_start rest a ms xs = refl

pub walk_end : (rest : List Module → Left) (a : Bool) (ms : List Module) → walk rest a ms [] ≡ rest ms
unfolding walk
walk_end rest a ms = refl

walk_byte : (rest : List Module → Left) (a : Bool) (ms : List Module) (b : ℕ) (xs : List ℕ) → b < 256
    → walk rest a ms (b ∷ ACK ∷ xs)
    ≡ put b (pick (any_ack b ms) (put ACK (walk rest (any_ack b ms) (map (hearing b) ms) xs)) (put NACK (stop_all (map (hearing b) ms))))
unfolding walk
walk_byte rest a ms b xs h = rw (ne_eqb b START (λ e. omega arith), ne_eqb b ACK (λ e. omega arith))

module _ (ack : List ℕ → Bool) (sent : List ℕ) where
  pub answered_start : (xs rest : List ℕ) → answered ack sent (START ∷ xs) rest ≡ START ∷ answered ack (sent ++ START ∷ []) xs rest
  unfolding answered
  answered_start xs rest = refl

  pub answered_end : (rest : List ℕ) → answered ack sent [] rest ≡ rest
  unfolding answered
  answered_end rest = refl

  answered_byte : (b : ℕ) (xs rest : List ℕ) → b < 256
      → answered ack sent (b ∷ ACK ∷ xs) rest ≡ b ∷ pick (ack (sent ++ b ∷ [])) (ACK ∷ answered ack (sent ++ b ∷ []) xs rest) (NACK ∷ STOP ∷ [])
  unfolding answered
  answered_byte b xs rest h = rw (ne_eqb b ACK (λ e. omega arith))

-- bytes that the targets acknowledge, and then what follows
module _ (rest : List Module → Left) (rest' tail : List ℕ) (ts ts' : List Target) where
  abbrev acks : List ℕ → Bool
  acks sent = somebody (acknowledges sent) ts

  abbrev Goes : List ℕ → List Module → List ℕ → Type 0
  Goes sent ms xs = (a : Bool) → Same (walk rest a ms xs) (answered acks sent xs rest') ts'

  -- one byte, after which this follows only where it is acknowledged
  one : (sent : List ℕ) (b : ℕ) (bs : List ℕ) (ms : List Module) (xs : List ℕ) → b < 256 → Abreast sent (b ∷ bs) ms ts ts'
      → (any_ack b ms ≡ true → Goes (sent ++ b ∷ []) (map (hearing b) ms) xs) → Goes sent ms (b ∷ ACK ∷ xs)
  one sent b bs ms xs v h g a =
      rw (walk_byte rest a ms b xs v, answered_byte acks sent b xs rest' v, ← any_same sent b bs ms ts ts' h) (same_put b _ _ ts' (go (any_ack b ms) refl))
    where
      go : (t : Bool) → any_ack b ms ≡ t
          → Same (pick t (put ACK (walk rest t (map (hearing b) ms) xs)) (put NACK (stop_all (map (hearing b) ms))))
          (pick t (ACK ∷ answered acks (sent ++ b ∷ []) xs rest') (NACK ∷ STOP ∷ []))
          ts'
      go true e = same_put ACK _ _ ts' (g e true)
      go false e = record { trace = refl; records = none_same sent b bs ms ts ts' h e }

  pub walked_one : (sent : List ℕ) (b : ℕ) (ms : List Module) → b < 256 → Abreast sent (b ∷ []) ms ts ts'
      → (any_ack b ms ≡ true → Goes (sent ++ b ∷ []) (map (hearing b) ms) tail) → Goes sent ms (b ∷ ACK ∷ tail)
  walked_one sent b ms v h g = one sent b [] ms tail v h g

  pub walked : (sent bs : List ℕ) (ms : List Module) → Bytes bs → Abreast sent bs ms ts ts' → Goes (sent ++ bs) (all_heard bs ms) tail → Goes sent ms (acked bs ++ tail)
  walked sent [] ms v h g = rw (append-nil sent) at g
  walked sent (b ∷ bs) ms v h g =
      one sent b bs ms (acked bs ++ tail) v.0 h
      (λ e. walked (sent ++ b ∷ []) bs (map (hearing b) ms) v.1 (next_same sent b bs ms ts ts' h) (rw (append_assoc sent (b ∷ []) bs) g))

-- START, bytes, STOP
pub sent_same : (bs : List ℕ) (ms : List Module) (ts ts' : List Target) → Bytes bs → Abreast (START ∷ []) bs (map starts ms) ts ts'
    → Same (walk stop_all false ms (START ∷ acked bs)) (answered (λ (sent : List ℕ). somebody (acknowledges sent) ts) [] (START ∷ acked bs) (STOP ∷ [])) ts'
sent_same bs ms ts ts' v h =
    rw (walk_start stop_all false ms (acked bs), answered_start acks' [] (acked bs) (STOP ∷ []))
    (same_put START _ _ ts' (rw (append-nil (acked bs)) at (walked stop_all (STOP ∷ []) [] ts ts' (START ∷ []) bs (map starts ms) v h ending false)))
  where
    acks' : List ℕ → Bool
    acks' sent = somebody (acknowledges sent) ts

    ending : (a : Bool) → Same (walk stop_all a (all_heard bs (map starts ms)) []) (answered acks' (START ∷ bs) [] (STOP ∷ [])) ts'
    ending a =
        rw (walk_end stop_all a (all_heard bs (map starts ms)), answered_end acks' (START ∷ bs) (STOP ∷ []))
        (record { trace = refl; records = records_silenced (all_heard bs (map starts ms)) ∙ abreast_end (START ∷ []) bs (map starts ms) ts ts' h })
