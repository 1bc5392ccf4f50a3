-- What each alternative of Figure 3 gives on an image, from what its parts do there.
use Prim.Native.Nat.{ℕ}
use mathlib.Core.Path.{◌≡◌, refl, sym, ◌∙◌, ap}
use mathlib.Core.List.{List}
use Rattle.std.specs.Prelude.{Ok, None}
use Rattle.view.specs.Logic.{pick, put}
use Rattle.view.specs.View.{with, minus, everyone}
use Rattle.view.specs.declared.ProcessId.{ProcessId}
use Rattle.view.specs.declared.GroupIndex.{GroupIndex}
use Rattle.view.proofs.Laws.{put_again}
use Rattle.channel.specs.declared.Message.{Message}
use Rattle.channel.specs.declared.Message.TheVariants.{Propose}
use Rattle.channel.specs.Channel.{popped}
use Rattle.system.specs.declared.Process.{Process}
use Rattle.system.specs.declared.Variables.{Variables}
use Rattle.system.specs.declared.System.{System}
use Rattle.system.specs.Process.{with_entry, with_pending, with_variables, with_history, Pending}
use Rattle.system.specs.System.{no_process, process_at, variables_at, with_process, channel_at, with_channel, with_trust, broadcasted}
use Rattle.plan.specs.declared.Change.{Change}
use Rattle.plan.specs.declared.Cut.{Cut}
use Rattle.plan.specs.declared.Reach.{Reach}
use Rattle.plan.specs.Fields.{with_view, with_next, with_acks, proposing}
use Rattle.plan.specs.Plan.{assigning, recording, entering, sending, quietly, doubting, changed}
use Rattle.plan.specs.Cut.{reach_of, only_whole}
use Rattle.step.specs.Step.{taken_off, doubted, changed_at, crashed_if}
use Rattle.plan.specs.Scope.{taking, facing}
use Rattle.image.specs.Image.{system_in, Becomes}
use Rattle.image.proofs.Parts.{stays}
use Rattle.effects.proofs.Laws.{becomes_then}
use Rattle.alternatives.specs.Gives.{Gives, carried, with_room}
use Rattle.alternatives.proofs.Carrying.{unsuspecting, unchanged_at, quiet_done, sent_done}

-- ---- the message goes out, and the process stops where it is cut
sent_then : {t : System} {b w d : List ℕ} (r : Reach) (p : ℕ) (m : Message) → Becomes t b w
    → Becomes (crashed_if r.stops (broadcasted (system_in w) p r.addressees m) p) w d
    → Becomes (crashed_if r.stops (broadcasted t p r.addressees m) p) b d
sent_then r p m before sends = becomes_then before sends (ap (λ (v : System). crashed_if r.stops (broadcasted v p r.addressees m) p) before.system)

-- ---- a take: the bytes are u once the message is off
module _ (b : List ℕ) (q p : ProcessId) (u : List ℕ)
    (off : Becomes (with_channel (system_in b) q.0 p.0 (popped (channel_at (system_in b) q.0 p.0))) b u) (cut : Cut) where
  abbrev taken : System
  taken = taken_off (system_in b) (taking q p)

  abbrev own : Variables
  own = variables_at (system_in b) p.0

  module _ (x : Unit {0}) (whole : Ok x ≡ only_whole cut) where
    pub skip_done : Gives (carried (system_in b) (taking q p) cut (quietly (assigning own))) b 0 u
    unfolding taken_off with_channel process_at pick
    skip_done =
        quiet_done b taken p.0 cut 0 (assigning own) x u whole
        (becomes_then (stays refl) off (sym (unchanged_at taken p.0) ∙ unsuspecting taken p.0 (assigning own)))

    pub record_done : (d : List ℕ) (r : Pending) → Becomes (with_process (system_in u) p.0 (with_pending (process_at (system_in u) p.0) q.0 r)) u d
        → Gives (carried (system_in b) (taking q p) cut (quietly (recording own q r))) b 0 d
    unfolding taken_off changed_at changed with_pending with_entry with_channel process_at put pick
    record_done d r puts =
        quiet_done b taken p.0 cut 0 (recording own q r) x d whole
        (becomes_then off puts
        (ap (λ (w : System). with_process w p.0 (with_pending (process_at w p.0) q.0 r)) off.system ∙ unsuspecting taken p.0 (recording own q r)))

    pub mark_done : (d : List ℕ) (acks : ℕ) (y : Variables) → y ≡ with_acks (variables_at (system_in u) p.0) acks
        → Becomes (with_process (system_in u) p.0 (with_variables (process_at (system_in u) p.0) y)) u d
        → Gives (carried (system_in b) (taking q p) cut (quietly (assigning (with_acks own acks)))) b 0 d
    unfolding taken_off changed_at changed with_variables with_entry with_channel process_at put pick
    mark_done d acks y marks puts =
        quiet_done b taken p.0 cut 0 (assigning (with_acks own acks)) x d whole
        (becomes_then off (rw marks at puts)
        (ap (λ (w : System). with_process w p.0 (with_variables (process_at w p.0) (with_acks (variables_at w p.0) acks))) off.system
        ∙ unsuspecting taken p.0 (assigning (with_acks own acks))))

    pub enter_done : (d : List ℕ) (i v : ℕ)
        → Becomes (with_process (system_in u) p.0 (with_history (process_at (system_in u) p.0) (with_entry (process_at (system_in u) p.0).history i v))) u d
        → Gives (carried (system_in b) (taking q p) cut (quietly (entering own i v))) b 0 d
    unfolding taken_off changed_at changed with_history with_channel process_at put pick
    enter_done d i v puts =
        quiet_done b taken p.0 cut 0 (entering own i v) x d whole
        (becomes_then off puts
        (ap (λ (w : System). with_process w p.0 (with_history (process_at w p.0) (with_entry (process_at w p.0).history i v))) off.system
        ∙ unsuspecting taken p.0 (entering own i v)))

  -- the variables become y, and the message goes out
  pub taken_sent : (y : Variables) (to : ℕ) (m : Message) (r : Reach) → Ok r ≡ with_room taken p.0 (reach_of cut to)
      → (w d : List ℕ) → Becomes (with_process (system_in u) p.0 (with_variables (process_at (system_in u) p.0) y)) u w
      → Becomes (crashed_if r.stops (broadcasted (system_in w) p.0 r.addressees m) p.0) w d
      → Gives (carried (system_in b) (taking q p) cut (sending (assigning y) to m)) b 0 d
  unfolding taken_off changed_at changed with_variables with_entry with_channel process_at put pick
  taken_sent y to m r reach w d puts sends =
      sent_done b taken p.0 cut 0 (assigning y) to m r d reach
      (sent_then r p.0 m
      (becomes_then off puts
      (ap (λ (v : System). with_process v p.0 (with_variables (process_at v p.0) y)) off.system ∙ unsuspecting taken p.0 (assigning y)))
      sends)

-- ---- a report: the bytes are u once the others are doubted
module _ (b : List ℕ) (p : ProcessId) (view : ℕ) (u : List ℕ)
    (doubts : Becomes (doubted (system_in b) p.0 (minus (everyone (system_in b).n) view)) b u) (cut : Cut) where
  abbrev others : ℕ
  others = minus (everyone (system_in b).n) view

  told_variables : variables_at (system_in u) p.0 ≡ variables_at (system_in b) p.0
  unfolding doubted process_at with_trust
  told_variables = rw doubts.system

  -- the variables become y
  changes_told : (y : Variables) (w : List ℕ) → Becomes (with_process (system_in u) p.0 (with_variables (process_at (system_in u) p.0) y)) u w
      → Becomes (changed_at (doubted (taken_off (system_in b) (facing p p)) p.0 others) p.0 (assigning y)) b w
  unfolding taken_off changed_at changed with_variables with_entry put pick
  changes_told y w puts = becomes_then doubts puts (ap (λ (v : System). with_process v p.0 (with_variables (process_at v p.0) y)) doubts.system)

  pub adopt_done : (x : Unit {0}) → Ok x ≡ only_whole cut → (y : Variables) → y ≡ with_view (variables_at (system_in u) p.0) view
      → (d : List ℕ) → Becomes (with_process (system_in u) p.0 (with_variables (process_at (system_in u) p.0) y)) u d
      → Gives (carried (system_in b) (facing p p) cut (doubting others (quietly (assigning (with_view (variables_at (system_in b) p.0) view))))) b 0 d
  adopt_done x whole y views d puts =
      quiet_done b (taken_off (system_in b) (facing p p)) p.0 cut others (assigning (with_view (variables_at (system_in b) p.0) view)) x d whole
      (changes_told _ d (rw (← told_variables, ← views) puts))

  pub propose_done : (i : GroupIndex) (y : Variables) (r : Reach) → Ok r ≡ with_room (taken_off (system_in b) (facing p p)) p.0 (reach_of cut view)
      → y ≡ proposing (variables_at (system_in u) p.0) view i.0
      → (w d : List ℕ) → Becomes (with_process (system_in u) p.0 (with_variables (process_at (system_in u) p.0) y)) u w
      → Becomes (crashed_if r.stops (broadcasted (system_in w) p.0 r.addressees (Propose view i)) p.0) w d
      → Gives (carried (system_in b) (facing p p) cut (doubting others (sending (assigning (proposing (variables_at (system_in b) p.0) view i.0)) view (Propose view i)))) b 0 d
  propose_done i y r reach proposes w d puts sends =
      sent_done b (taken_off (system_in b) (facing p p)) p.0 cut others (assigning (proposing (variables_at (system_in b) p.0) view i.0)) view (Propose view i) r d reach
      (sent_then r p.0 (Propose view i) (changes_told _ w (rw (← told_variables, ← proposes) puts)) sends)

-- ---- an answer
-- a process is replaced, and replaced again by what is made of it
process_again : (s : System) (p : ℕ) (x : Process) (f : Process → Process)
    → with_process (with_process s p x) p (f (process_at (with_process s p x) p)) ≡ with_process s p (f x)
unfolding with_process process_at
process_again s p x f = ap (λ (l : List Process). record { n = s.n; processes = l; channels = s.channels; trust = s.trust }) (put_again s.processes p x no_process f)

-- from the last change back to the first: at each of them one fact fits
pub reply_done : (b d : List ℕ) (p q : ProcessId) (cut : Cut) (next : GroupIndex) (m : Message)
    → (w : List ℕ) (r : Reach) → Becomes (crashed_if r.stops (broadcasted (system_in w) p.0 r.addressees m) p.0) w d
    → (u : List ℕ) → Becomes (with_process (system_in u) p.0 (with_pending (process_at (system_in u) p.0) q.0 None)) u w
    → (y : Variables) → Becomes (with_process (system_in b) p.0 (with_variables (process_at (system_in b) p.0) y)) b u
    → y ≡ with_next (variables_at (system_in b) p.0) next.0
    → (to : ℕ) → to ≡ with 0 q.0 → Ok r ≡ with_room (taken_off (system_in b) (facing p q)) p.0 (reach_of cut to)
    → Gives (carried (system_in b) (facing p q) cut (sending (recording (with_next (variables_at (system_in b) p.0) next.0) q None) (with 0 q.0) m)) b 0 d
unfolding taken_off changed_at changed with_variables with_pending with_entry put pick
reply_done b d p q cut next m w r sends u clears y puts raises to proposer reach =
    let c : Change = recording (with_next (variables_at (system_in b) p.0) next.0) q None in
    sent_done b (system_in b) p.0 cut 0 c (with 0 q.0) m r d (rw (← proposer) reach)
    (sent_then r p.0 m
    (becomes_then puts clears
    (ap (λ (v : System). with_process v p.0 (with_pending (process_at v p.0) q.0 None)) (rw raises at puts.system)
    ∙ process_again (system_in b) p.0 _ (λ x. with_pending x q.0 None)
    ∙ unsuspecting (system_in b) p.0 c))
    sends)
