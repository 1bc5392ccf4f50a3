-- `codec::decode`: by the length; then channel by channel.
use Rattle.std.proofs.Common.{◌≡◌, Result, Ok, Err, rules, arith, eq-eqb, ne_eqb, ◌∙◌, ap, drop}
use Rattle.std.specs.Result.{MatchResult}
use Rattle.view.specs.Logic.{pick}
use Rattle.system.specs.declared.System.{System}
use Rattle.system.specs.declared.Refused.{Refused}
use Rattle.system.specs.Outcome.{Outcome, outcome_of}
use Rattle.system.specs.Fresh.{fresh_system, fresh_of}
use Rattle.image.specs.Image.{processes_place, channels_place, trust_place, decoded}
use Rattle.image.proofs.Parts.{process_local, channel_local}
use Rattle.codec.proofs.Laws.{rows_made, rows_read, bytes_made, all_made}
use Rattle.codec.proofs.decode.Goals as goal

of_none : (r : Result System Refused) (s : System) (Q : Refused → Type 0) → outcome_of r ≡ fresh_of 0 → MatchResult r (λ t. s ≡ t) Q
    → ((e : Refused) → Q e → s ≡ e.system) → s ≡ fresh_system 0
unfolding fresh_of pick
of_none (Ok t) s Q e h f = absurd (omega (arith, ap (λ (o : Outcome). o.refusal) e))
of_none (Err e) s Q o h f = f e h ∙ ap (λ (t : Outcome). t.system) o

pub returns-then-image-ne-IMAGE : goal.returns-then-image-ne-IMAGE
unfolding pick
returns-then-image-ne-IMAGE c = rw (ne_eqb _ _ c.if-image-ne-IMAGE.true) (of_none _ _ _ c.fresh.ensures c.unwrap_or_else.ensures (λ e k. search rules))

pub returns : goal.returns
unfolding pick decoded
returns c =
    let b = c.args.image.now in
    rw (
      eq-eqb _ _ c.if-image-ne-IMAGE.false,
      rows_made process_local 8 (drop processes_place b) c.from_fn.ensures.items (λ i x q k. search rules) c.as_chunks.ensures.front (omega arith),
      all_made c.loop-i.invariant (omega arith) (omega arith),
      rows_read channel_local 64 (drop channels_place b) c.as_chunks-2.ensures.front (omega arith),
      bytes_made _ _ (drop trust_place b) c.first_chunk.ensures.cases c.unwrap.ensures (omega arith),
    )
