-- WHY THERE WAS NO ROW: the smaller table of the code is the one that is asked of the tables of rows. One test each, computed: every event
-- that a place may know of.
-- Assumes nothing.
use mathlib.Core.Path.{◌≡◌, refl, sym, ◌∙◌, ap}
use mathlib.Core.Bool.{Bool, true, false, ◌&&◌, ◌||◌}
use Rattle.rows.specs.Valid.{pickℕ}
use Rattle.rows.specs.Why.{row_in, row_ever, why_of, small_has, small_ever}
use Rattle.rows.specs.declared.Asked.{Asked}
use Rattle.rows.specs.declared.Cue.{Cue}
use Rattle.rows.specs.declared.Heard.{Heard}
use Rattle.rows.specs.declared.Kind.{Kind}
use Rattle.rows.specs.declared.Kind.TheVariants.{Opens, Asks, Iam, Answer, Rel, Fac, Tells, Expires, Passes}
use Rattle.rows.specs.declared.Phase.{Phase}
use Rattle.rows.specs.declared.Phase.TheVariants.{Unopened, Null, Setup, Answered, Cleared}
use Rattle.rows.specs.declared.Role.{Role}
use Rattle.rows.specs.declared.Role.TheVariants.{Originating, Destination}
use Rattle.rows.specs.declared.Told.{Told}
use Rattle.rows.proofs.Found.{sure_booleans}
use Rattle.rows.proofs.Truth.{alike, are_alike}

-- ---- A test of six Booleans, tried on all of them

abbrev tried : (Bool → Bool) → Bool
tried f = f true && f false

sure : (f : Bool → Bool → Bool → Bool → Bool → Bool → Bool) →
    tried (λ a. tried (λ b. tried (λ c. tried (λ d. tried (λ e. tried (λ g. f a b c d e g)))))) ≡ true → (a b c d e g : Bool) → f a b c d e g ≡ true
sure f h a b c d e g =
    let i = sure_booleans (λ a'. tried (λ b'. tried (λ c'. tried (λ d'. tried (λ e'. tried (λ g'. f a' b' c' d' e' g')))))) h a in
    let j = sure_booleans (λ b'. tried (λ c'. tried (λ d'. tried (λ e'. tried (λ g'. f a b' c' d' e' g'))))) i b in
    let k = sure_booleans (λ c'. tried (λ d'. tried (λ e'. tried (λ g'. f a b c' d' e' g')))) j c in
    let l = sure_booleans (λ d'. tried (λ e'. tried (λ g'. f a b c d' e' g'))) k d in
    let m = sure_booleans (λ e'. tried (λ g'. f a b c d e' g')) l e in
    sure_booleans (λ g'. f a b c d e g') m g

-- ---- What an event may be

abbrev cue : Kind → Asked → Heard → Told → Cue
cue k q h a = record { kind = k; asked = q; heard = h; told = a }

-- both tables give the same
abbrev Same : Role → Phase → Cue → Type 0
Same r p e = row_in r p e ≡ small_has r p e

abbrev test : Role → Phase → Cue → Bool
test r p e = alike (row_in r p e) (small_has r p e)

-- with these words of a request, of the access, of a component
abbrev request : Bool → Bool → Bool → Bool → Bool → Asked
request a b c d e = record { basic = a; casea = b; caseb = c; casec = d; reversal = e }

abbrev saying : Bool → Bool → Bool → Bool → Bool → Told
saying a b c d e = record { accepts = a; refuses = b; rejects = c; clears = d; answers = e }

-- originating, NULL
in_originating_null : (k : Kind) (q : Asked) (h : Heard) (a : Told) → Same Originating Null (cue k q h a)
in_originating_null Opens q h a = refl
in_originating_null Asks q h a =
    are_alike _ _
    (sure (λ b c d e g x. test Originating Null (cue Asks (request b c d e g) h a)) refl q.basic q.casea q.caseb q.casec q.reversal true)
in_originating_null Iam q h a = refl
in_originating_null Answer q h a = refl
in_originating_null Rel q h a = refl
in_originating_null Fac q h a = refl
in_originating_null Tells q h a = refl
in_originating_null Expires q h a = refl
in_originating_null Passes q h a = refl

-- destination, NULL
in_destination_null : (k : Kind) (q : Asked) (h : Heard) (a : Told) → Same Destination Null (cue k q h a)
in_destination_null Opens q h a = refl
in_destination_null Asks q h a = refl
in_destination_null Iam q h a =
    are_alike _ _
    (sure (λ b c d e g x. test Destination Null (cue Iam q (record { alone = b; invoke = h.invoke; invokesetup = c; invokeactive = h.invokeactive; invokecalled = h.invokecalled; resultsetup = h.resultsetup; resultactive = h.resultactive; resultcalled = h.resultcalled; failure = h.failure; rejection = h.rejection }) a)) refl h.alone h.invokesetup true true true true)
in_destination_null Answer q h a = refl
in_destination_null Rel q h a = refl
in_destination_null Fac q h a = refl
in_destination_null Tells q h a = refl
in_destination_null Expires q h a = refl
in_destination_null Passes q h a = refl

-- originating, SETUP
in_originating_setup : (k : Kind) (q : Asked) (h : Heard) (a : Told) → Same Originating Setup (cue k q h a)
in_originating_setup Opens q h a = refl
in_originating_setup Asks q h a = refl
in_originating_setup Iam q h a = refl
in_originating_setup Answer q h a =
    are_alike _ _
    (sure (λ b c d e g x. test Originating Setup (cue Answer q (record { alone = b; invoke = h.invoke; invokesetup = h.invokesetup; invokeactive = h.invokeactive; invokecalled = h.invokecalled; resultsetup = c; resultactive = h.resultactive; resultcalled = h.resultcalled; failure = h.failure; rejection = h.rejection }) a)) refl h.alone h.resultsetup true true true true)
in_originating_setup Rel q h a = refl
in_originating_setup Fac q h a =
    are_alike _ _
    (sure (λ b c d e g x. test Originating Setup (cue Fac q (record { alone = h.alone; invoke = h.invoke; invokesetup = h.invokesetup; invokeactive = h.invokeactive; invokecalled = b; resultsetup = h.resultsetup; resultactive = h.resultactive; resultcalled = h.resultcalled; failure = h.failure; rejection = h.rejection }) a)) refl h.invokecalled true true true true true)
in_originating_setup Tells q h a =
    are_alike _ _
    (sure (λ b c d e g x. test Originating Setup (cue Tells q h (saying b c d e g))) refl a.accepts a.refuses a.rejects a.clears a.answers true)
in_originating_setup Expires q h a = refl
in_originating_setup Passes q h a = refl

-- destination, SETUP
in_destination_setup : (k : Kind) (q : Asked) (h : Heard) (a : Told) → Same Destination Setup (cue k q h a)
in_destination_setup Opens q h a = refl
in_destination_setup Asks q h a =
    are_alike _ _
    (sure (λ b c d e g x. test Destination Setup (cue Asks (request b c d e g) h a)) refl q.basic q.casea q.caseb q.casec q.reversal true)
in_destination_setup Iam q h a = refl
in_destination_setup Answer q h a = refl
in_destination_setup Rel q h a = refl
in_destination_setup Fac q h a =
    are_alike _ _
    (sure (λ b c d e g x. test Destination Setup (cue Fac q (record { alone = h.alone; invoke = b; invokesetup = h.invokesetup; invokeactive = h.invokeactive; invokecalled = h.invokecalled; resultsetup = h.resultsetup; resultactive = h.resultactive; resultcalled = c; failure = d; rejection = e }) a)) refl h.invoke h.resultcalled h.failure h.rejection true true)
in_destination_setup Tells q h a =
    are_alike _ _
    (sure (λ b c d e g x. test Destination Setup (cue Tells q h (saying b c d e g))) refl a.accepts a.refuses a.rejects a.clears a.answers true)
in_destination_setup Expires q h a = refl
in_destination_setup Passes q h a = refl

-- originating, ANSWERED
in_originating_answered : (k : Kind) (q : Asked) (h : Heard) (a : Told) → Same Originating Answered (cue k q h a)
in_originating_answered Opens q h a = refl
in_originating_answered Asks q h a =
    are_alike _ _
    (sure (λ b c d e g x. test Originating Answered (cue Asks (request b c d e g) h a)) refl q.basic q.casea q.caseb q.casec q.reversal true)
in_originating_answered Iam q h a = refl
in_originating_answered Answer q h a = refl
in_originating_answered Rel q h a = refl
in_originating_answered Fac q h a =
    are_alike _ _
    (sure (λ b c d e g x. test Originating Answered (cue Fac q (record { alone = x; invoke = c; invokesetup = h.invokesetup; invokeactive = h.invokeactive; invokecalled = b; resultsetup = h.resultsetup; resultactive = d; resultcalled = h.resultcalled; failure = e; rejection = g }) a)) refl h.invokecalled h.invoke h.resultactive h.failure h.rejection h.alone)
in_originating_answered Tells q h a =
    are_alike _ _
    (sure (λ b c d e g x. test Originating Answered (cue Tells q h (saying b c d e g))) refl a.accepts a.refuses a.rejects a.clears a.answers true)
in_originating_answered Expires q h a = refl
in_originating_answered Passes q h a = refl

-- destination, ANSWERED
in_destination_answered : (k : Kind) (q : Asked) (h : Heard) (a : Told) → Same Destination Answered (cue k q h a)
in_destination_answered Opens q h a = refl
in_destination_answered Asks q h a =
    are_alike _ _
    (sure (λ b c d e g x. test Destination Answered (cue Asks (request b c d e g) h a)) refl q.basic q.casea q.caseb q.casec q.reversal true)
in_destination_answered Iam q h a = refl
in_destination_answered Answer q h a = refl
in_destination_answered Rel q h a = refl
in_destination_answered Fac q h a =
    are_alike _ _
    (sure (λ b c d e g x. test Destination Answered (cue Fac q (record { alone = h.alone; invoke = c; invokesetup = h.invokesetup; invokeactive = b; invokecalled = h.invokecalled; resultsetup = h.resultsetup; resultactive = h.resultactive; resultcalled = d; failure = e; rejection = g }) a)) refl h.invokeactive h.invoke h.resultcalled h.failure h.rejection true)
in_destination_answered Tells q h a =
    are_alike _ _
    (sure (λ b c d e g x. test Destination Answered (cue Tells q h (saying b c d e g))) refl a.accepts a.refuses a.rejects a.clears a.answers true)
in_destination_answered Expires q h a = refl
in_destination_answered Passes q h a = refl

-- before the opening, and after the clearing
in_unopened : (r : Role) (k : Kind) (q : Asked) (h : Heard) (a : Told) → Same r Unopened (cue k q h a)
in_unopened Originating Opens q h a = refl
in_unopened Originating Asks q h a = refl
in_unopened Originating Iam q h a = refl
in_unopened Originating Answer q h a = refl
in_unopened Originating Rel q h a = refl
in_unopened Originating Fac q h a = refl
in_unopened Originating Tells q h a = refl
in_unopened Originating Expires q h a = refl
in_unopened Originating Passes q h a = refl
in_unopened Destination Opens q h a = refl
in_unopened Destination Asks q h a = refl
in_unopened Destination Iam q h a = refl
in_unopened Destination Answer q h a = refl
in_unopened Destination Rel q h a = refl
in_unopened Destination Fac q h a = refl
in_unopened Destination Tells q h a = refl
in_unopened Destination Expires q h a = refl
in_unopened Destination Passes q h a = refl

in_cleared : (r : Role) (k : Kind) (q : Asked) (h : Heard) (a : Told) → Same r Cleared (cue k q h a)
in_cleared Originating Opens q h a = refl
in_cleared Originating Asks q h a = refl
in_cleared Originating Iam q h a = refl
in_cleared Originating Answer q h a = refl
in_cleared Originating Rel q h a = refl
in_cleared Originating Fac q h a = refl
in_cleared Originating Tells q h a = refl
in_cleared Originating Expires q h a = refl
in_cleared Originating Passes q h a = refl
in_cleared Destination Opens q h a = refl
in_cleared Destination Asks q h a = refl
in_cleared Destination Iam q h a = refl
in_cleared Destination Answer q h a = refl
in_cleared Destination Rel q h a = refl
in_cleared Destination Fac q h a = refl
in_cleared Destination Tells q h a = refl
in_cleared Destination Expires q h a = refl
in_cleared Destination Passes q h a = refl

pub same_table : (r : Role) (p : Phase) (e : Cue) → Same r p e
same_table r Unopened e = in_unopened r e.kind e.asked e.heard e.told
same_table Originating Null e = in_originating_null e.kind e.asked e.heard e.told
same_table Destination Null e = in_destination_null e.kind e.asked e.heard e.told
same_table Originating Setup e = in_originating_setup e.kind e.asked e.heard e.told
same_table Destination Setup e = in_destination_setup e.kind e.asked e.heard e.told
same_table Originating Answered e = in_originating_answered e.kind e.asked e.heard e.told
same_table Destination Answered e = in_destination_answered e.kind e.asked e.heard e.told
same_table r Cleared e = in_cleared r e.kind e.asked e.heard e.told

same_ever : (r : Role) (e : Cue) → row_ever r e ≡ small_ever r e
same_ever r e =
    ap (λ (b : Bool). b || (row_in r Null e || (row_in r Setup e || (row_in r Answered e || row_in r Cleared e)))) (same_table r Unopened e)
    ∙ ap (λ (b : Bool). small_has r Unopened e || (b || (row_in r Setup e || (row_in r Answered e || row_in r Cleared e)))) (same_table r Null e)
    ∙ ap (λ (b : Bool). small_has r Unopened e || (small_has r Null e || (b || (row_in r Answered e || row_in r Cleared e)))) (same_table r Setup e)
    ∙ ap (λ (b : Bool). small_has r Unopened e || (small_has r Null e || (small_has r Setup e || (b || row_in r Cleared e)))) (same_table r Answered e)
    ∙ ap (λ (b : Bool). small_has r Unopened e || (small_has r Null e || (small_has r Setup e || (small_has r Answered e || b)))) (same_table r Cleared e)

-- ---- So the code's answers are those asked for

by_classes : (r : Role) (p : Phase) (e : Cue) (a b : Bool) → small_has r p e ≡ a → small_ever r e ≡ b → pickℕ a 16 (pickℕ b 15 1) ≡ why_of r p e
by_classes r p e a b i j =
    sym (ap (λ (x : Bool). pickℕ x 16 (pickℕ (row_ever r e) 15 1)) (same_table r p e ∙ i) ∙ ap (λ (x : Bool). pickℕ a 16 (pickℕ x 15 1)) (same_ever r e ∙ j))

pub is_16 : (r : Role) (p : Phase) (e : Cue) → small_has r p e ≡ true → 16 ≡ why_of r p e
is_16 r p e h = by_classes r p e true (small_ever r e) h refl

pub is_15 : (r : Role) (p : Phase) (e : Cue) → small_has r p e ≡ false → small_ever r e ≡ true → 15 ≡ why_of r p e
is_15 r p e h i = by_classes r p e false true h i

pub is_1 : (r : Role) (p : Phase) (e : Cue) → small_has r p e ≡ false → small_ever r e ≡ false → 1 ≡ why_of r p e
is_1 r p e h i = by_classes r p e false false h i
