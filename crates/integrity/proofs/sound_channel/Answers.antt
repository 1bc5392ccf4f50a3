-- `integrity::sound_channel`: message by message.
use Rattle.std.proofs.Common.{◌≡◌, ◌≤◌, ◌-◌, ◌+◌, length, arith, ◌∙◌, sym}
use Rattle.system.specs.System.{channel_at}
use Rattle.image.specs.Image.{system_in}
use Rattle.image.proofs.Shape.{slots_long}
use Rattle.integrity.proofs.Laws.{message_none, message_turn, message_all, long_channel}
use Rattle.integrity.proofs.sound_channel.Goals as goal

pub returns-then-len-gt8 : goal.returns-then-len-gt8
returns-then-len-gt8 c = sym (long_channel _ _ _ _ _ (omega (arith, c.length_at-len.ensures)))

pub loop-i-init : goal.loop-i-init
loop-i-init c = record { within = omega arith; so_far = rw c.length_at-len.ensures (message_none _ _ _ _ _) }

pub loop-i-preserved : goal.loop-i-preserved
loop-i-preserved c =
    let a = c.args in
    let room : c.loop-i.i ≤ length (channel_at (system_in a.image.now) a.q.0 a.p.0).slots = rw (slots_long a.image.now a.q.0 a.p.0) (omega arith) in
    let next : c.loop-i.i + 1 - 1 ≡ c.loop-i.i = omega arith in
    record {
      within = omega arith;
      so_far = rw next (message_turn _ _ _ _ _ _ _ _ c.loop-i.auto.i room c.loop-i.invariant.so_far (rw c.message_at.ensures at c.sound_message-ok.ensures));
    }

pub returns-else-len-gt8 : goal.returns-else-len-gt8
returns-else-len-gt8 c =
    let d = channel_at (system_in c.args.image.now) c.args.q.0 c.args.p.0 in
    let end : c.loop-i.i - 1 ≡ d.len = omega (arith, c.length_at-len.ensures) in
    rw end at c.loop-i.invariant.so_far ∙ message_all _ _ _ _ d (omega (arith, c.length_at-len.ensures))

pub returns-else-len-gt8-2 : goal.returns-else-len-gt8-2
returns-else-len-gt8-2 c =
    let a = c.args in
    let d = channel_at (system_in a.image.now) a.q.0 a.p.0 in
    let room : c.loop-i.i ≤ length d.slots = rw (slots_long a.image.now a.q.0 a.p.0) (omega arith) in
    let end : c.loop-i.i ≡ d.len = omega (arith, c.length_at-len.ensures) in
    rw end at (message_turn _ _ _ _ _ _ _ _ c.loop-i.auto.i room c.loop-i.invariant.so_far (rw c.message_at.ensures at c.sound_message-ok.ensures))
    ∙ message_all _ _ _ _ d (omega (arith, c.length_at-len.ensures))
