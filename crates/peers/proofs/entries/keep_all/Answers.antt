use Rattle.std.proofs.Common.{[], refl, sym, ◌∙◌, zero-add, arith}
use Rattle.std.proofs.lemmas.Result.{err_from_is_err_and}
use Rattle.peers.proofs.Entered.{keep_refused, keep_near, keep_on, keep_before, before_refused, before_room, before_all, within_as}
use Rattle.peers.proofs.entries.keep_all.Goals as goal

pub keep-requires : goal.keep-requires
keep-requires c =
    let z = c.entry_size-n.ensures.1 in
    let e = c.requires.0 in
    let o = keep_on _ _ 0 0 [] 0 _ c.requires.0 c.read_component.ensures _ _ c.in_ok-c.was in
    let n = keep_near _ _ 0 0 [] 0 _ c.requires.0 c.read_component.ensures _ _ c.in_ok-c.was in
    (n, c.requires.1, omega arith)

pub put_entry-requires : goal.put_entry-requires
put_entry-requires c =
    before_room _ _ _ _ _ _ _ _ _ _ refl (c.entry_size-n.ensures.0 _ _ ∙ sym (zero-add _)) c.keep.ensures.0 _ c.in_ok-end.was

pub returns-in_err-c : goal.returns-in_err-c
returns-in_err-c c =
    let p = err_from_is_err_and c.from_residual.result c.from_residual.ensures.1 in
    rw (p.1, p.2) (keep_refused _ _ _ _ _ _ _ c.requires.0 c.read_component.ensures _ _ c.requires.1 c.in_err-c.was)

pub returns-in_err-end : goal.returns-in_err-end
returns-in_err-end c =
    let p = err_from_is_err_and c.from_residual-in_err-end.result c.from_residual-in_err-end.ensures.1 in
    rw (p.1, p.2) (
      keep_before _ _ _ _ _ _ _ c.requires.0 c.read_component.ensures _ _ c.in_ok-c.was _ _
          (before_refused _ _ _ _ _ _ _ _ _ _ refl (c.entry_size-n.ensures.0 _ _ ∙ sym (zero-add _)) c.keep.ensures.0 _ c.in_err-end.was),
      within_as _ _ c.in_err-end.was c.keep.ensures.1,
    )

pub returns : goal.returns
returns c = (
  keep_before _ _ _ _ _ _ _ c.requires.0 c.read_component.ensures _ _ c.in_ok-c.was _ _
      (before_all _ _ _ _ _ _ _ _ _ _ refl (c.entry_size-n.ensures.0 _ _ ∙ sym (zero-add _)) c.keep.ensures.0 _ _ _ c.in_ok-end.was c.put_entry.ensures),
  within_as _ _ c.in_ok-end.was c.keep.ensures.1,
)
