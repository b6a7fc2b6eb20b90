use Rattle.files.proofs.Fits.{answer_within, front_length}
use Rattle.dump.proofs.main.Goals as goal

pub slice_bounds-out-end : goal.slice_bounds-out-end
slice_bounds-out-end c = search (answer_within)

pub slice_bounds-write_all-end-in_default : goal.slice_bounds-write_all-end-in_default
slice_bounds-write_all-end-in_default c = search (front_length)
