use Rattle.std.proofs.Common.{refl, arith}
use Rattle.std.proofs.lemmas.Result.{err_from_is_err_and}
use Rattle.peers.proofs.Entered.{ended_all, ended_kept, alone_length, alone_refused, alone_all}
use Rattle.peers.proofs.entries.write_none.Goals as goal

pub returns-in_err-n : goal.returns-in_err-n
returns-in_err-n c =
    let p = err_from_is_err_and c.from_residual.result c.from_residual.ensures.1 in
    rw (p.1, p.2) (
      alone_refused _ _ _ _ _ _ (alone_length _ _ _ _ _ refl ((rw c.none-c.ensures at c.entry_size.ensures.0) _ _)) c.in_err-n.ensures,
      ended_kept _ _ _ _ _ (omega arith) c.in_err-n.ensures,
    )

pub put_entry-requires : goal.put_entry-requires
put_entry-requires c = let h = ended_all _ _ _ _ c.in_ok-n.ensures in omega arith

pub returns : goal.returns
returns c = (
  alone_all _ _ _ _ _ _ _ _ _ refl ((rw c.none-c.ensures at c.entry_size.ensures.0) _ _) c.in_ok-n.ensures (rw c.none-c.ensures at c.put_entry.ensures),
  ended_kept _ _ _ _ _ (omega arith) c.in_ok-n.ensures,
)
