-- The meters of a call: what each change of them gives (01, "States and payers"), and its answered total (02 #104).
-- Assumes nothing.
use Rattle.std.specs.Prelude.{ℕ, Option, Some, None, ◌+◌, Bool, true, false, ◌&&◌, leb, eqb}
use Rattle.meters.specs.declared.Payer.{Payer}
use Rattle.meters.specs.declared.Payer.TheVariants.{Nobody, Caller, Called, Far}
use Rattle.meters.specs.declared.Meters.{Meters}
use Rattle.meters.specs.declared.Change.{Change}
use Rattle.meters.specs.declared.Change.TheVariants.{Keep, Begin, CallerPays, CalledPays, FarPays, NobodyPays, EntireToCalled}
use Rattle.meters.specs.declared.Change.TheVariants.{EntireToFar, TimePasses, DurationReceived}

-- 01, number 2: what no sum of meters, and no Duration that a row uses, may pass; 02 #104: "2 also where the total would pass that limit"
abbrev pub limit : ℕ
limit = 31536000

abbrev pub new_of : Meters
new_of = record { caller = 0; called = 0; far = 0; payer = Nobody; total = 0 }

-- 01: "the sum of the meters"
abbrev pub sum_of : Meters → ℕ
sum_of m = m.caller + m.called + m.far

abbrev pub within_of : Meters → Bool
within_of m = leb (sum_of m) limit

abbrev pub total_within_of : Meters → Bool
total_within_of m = leb m.total limit

-- 02 #104: the total "equals the three meters' sum"
abbrev pub adds_up_of : Meters → Bool
adds_up_of m = eqb (sum_of m) m.total

abbrev pub paid_by_of : Meters → Payer → Meters
paid_by_of m p = record { caller = m.caller; called = m.called; far = m.far; payer = p; total = m.total }

abbrev pub unless_past : Bool → Meters → Option Meters
unless_past true m = Some m
unless_past false m = None

-- seconds onto each meter, and l onto the total, unless the sum or the total would pass the limit
abbrev pub adds_of : Meters → ℕ → ℕ → ℕ → ℕ → Option Meters
adds_of m a b f l =
    unless_past (leb (sum_of m + (a + b + f)) limit && leb (m.total + l) limit)
    (record { caller = m.caller + a; called = m.called + b; far = m.far + f; payer = m.payer; total = m.total + l })

-- 01: "one of them runs and takes all seconds of a time event", by the payer; 02 #104: so does the total. Where nobody pays none of them runs,
-- and the meters are as they were
abbrev pub gives_to : Payer → Meters → ℕ → Option Meters
gives_to Nobody m s = Some m
gives_to Caller m s = adds_of m s 0 0 s
gives_to Called m s = adds_of m 0 s 0 s
gives_to Far m s = adds_of m 0 0 s s

abbrev pub give_of : Meters → ℕ → Option Meters
give_of m s = gives_to m.payer m s

-- case C: another payer, and the caller's meter is emptied; b seconds go to called, f to far, and none of them is counted
-- into the total again
abbrev pub entire_of : Meters → Payer → ℕ → ℕ → Option Meters
entire_of m p b f = adds_of (record { caller = 0; called = m.called; far = m.far; payer = p; total = m.total }) 0 b f 0

-- "Case C in transfer mode sets called to the Duration received and far to 0"; the total is this exchange's own seconds, "whatever Duration
-- arrived"
abbrev pub received_of : Meters → ℕ → Option Meters
received_of m s = adds_of (record { caller = m.caller; called = 0; far = 0; payer = Called; total = m.total }) 0 s 0 0

-- Begin: an opening starts anew, whatever the call before it left (02 #107: "freed slots are used"). "Case C moves the caller's seconds to
-- called (no transfer) or to far (transfer)"
abbrev pub change_of : Change → Meters → ℕ → Option Meters
change_of Keep m s = Some m
change_of Begin m s = Some new_of
change_of CallerPays m s = Some (paid_by_of m Caller)
change_of CalledPays m s = Some (paid_by_of m Called)
change_of FarPays m s = Some (paid_by_of m Far)
change_of NobodyPays m s = Some (paid_by_of m Nobody)
change_of EntireToCalled m s = entire_of m Called m.caller 0
change_of EntireToFar m s = entire_of m Far 0 m.caller
change_of TimePasses m s = give_of m s
change_of DurationReceived m s = received_of m s
