use Rattle.std.proofs.Common.{◌≤◌, length, sym, refl, ap, ◌∙◌, arith}
use Rattle.files.specs.Listing.{index_of}
use Rattle.files.proofs.Turns.{Found, listed_begin, found_here, found_there, listed_turn, listed_done, listed_names}
use Rattle.files.proofs.listing.write.Goals as goal
use Rattle.files.proofs.listing.write.Goals.{then-index-held, else-index-held}

pub loop-at-init : goal.loop-at-init
loop-at-init c = listed_begin _ _ _ _ _ _ c.unopened-call.ensures c.of-at-items.ensures c.into_iter-at-iterator.ensures.into_iter_gives

pub loop-at-preserved : goal.loop-at-preserved
loop-at-preserved c =
    -- the call of the record's slot is held, whichever way that came
    let held_now : Found c.args.file.now c.args.slots c.word.new.self c.loop-at.page c.loop-at.at-iterator.at c.loop-at.count c.loop-at.named c.index_of-index.result c.if-index-held.row c.if-index-held.held c.if-index-held.call =
    elim c.if-index-held.branch [
      | then-index-held w ↦ found_there c.loop-at.invariant.1 _ _ _ _ _ c.index_of-index.ensures.1 w.call-is w.row-is w.held-is
      | else-index-held w ↦ found_here c.loop-at.invariant.1 _ _ _ _ w.if-index-held.false w.call-is w.row-is w.held-is
    ] in
    listed_turn _ c.loop-at.at-iterator c.next.new.self c.in-Some.at c.in-Some.f c.loop-at.invariant.0 c.in-Some.ensures.steps
    _ _ _ _ _ _ _ _ _ _ _ _ _ _ _ held_now (c.from.ensures ∙ c.slot-slot.ensures ∙ c.acts_framed-acts.ensures.0) (c.index_of-index.ensures.0 ∙ ap index_of (sym c.from.ensures)) refl c.answer-o.ensures
    (c.is_slot-named.ensures ∙ c.acts_framed-acts.ensures.1) refl c.put_record.ensures.put

pub returns-clause-put : goal.returns-clause-put
returns-clause-put c =
    let past : length c.args.file.now ≤ c.loop-at.at-iterator.at = omega (arith, ap length c.loop-at.invariant.0, c.in-None.ensures.steps.0) in
    listed_done _ _ _ _ _ _ _ _ _ _ _ _ c.loop-at.invariant.1 past c.word.ensures c.put_numbered_line.ensures

pub returns-clause-value : goal.returns-clause-value
returns-clause-value c =
    let past : length c.args.file.now ≤ c.loop-at.at-iterator.at = omega (arith, ap length c.loop-at.invariant.0, c.in-None.ensures.steps.0) in
    listed_names _ _ _ _ _ _ _ _ _ _ c.loop-at.invariant.1 past
