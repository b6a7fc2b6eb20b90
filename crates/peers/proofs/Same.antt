-- Any two results that a contract of `peers` allows are the same: a law for each form that is not already in the Same.antt of `text`
-- (`same`: `heard`, `received`, `alone`, `carried`, `sent`; `put_same`: `put_entry`).
-- Assumes nothing.
use mathlib.Core.List.{List}
use mathlib.Core.Path.{◌≡◌, sym, ap, ◌∙◌}
use Prim.Native.Nat.{ℕ}
use Rattle.std.proofs.Common.{Result}
use Rattle.text.proofs.Same.{same}
use Rattle.rows.specs.declared.Note.{Note}
use Rattle.wire.specs.Parameters.{Parameter, refused, holds, parameter_of}
use Rattle.wire.specs.Texts.{parameter_text, written_of, leaves_of}
use Rattle.wire.specs.Writable.{bad_of}
use Rattle.wire.specs.declared.Unwritten.{Unwritten}
use Rattle.peers.specs.Entries.{entries_of, kept_of, Keeps, read_gives, read_leaves, identifier_at, record_at, write_gives, write_leaves}
use Rattle.peers.specs.Messages.{sent_of}
use Rattle.peers.specs.declared.Refusal.{Refusal}

both_same : {A : Type 0} {a r r' : A} {b new new' : List ℕ} → (r ≡ a) × (new ≡ b) → (r' ≡ a) × (new' ≡ b) → (r ≡ r') × (new ≡ new')
both_same p q = (same p.0 q.0, same p.1 q.1)

-- What `rev_read_parameter` says: what is given back, and the bytes that the buffer then holds.
abbrev pub Entered : List ℕ → ℕ → ℕ → List ℕ → ℕ → List ℕ → Type 0
Entered s message cause old r new = (r ≡ read_gives message cause (parameter_of s) old) × (new ≡ read_leaves message cause (parameter_of s) old)

-- For one parameter, message, cause and buffer there is one number, and one content of the buffer after it.
pub entered_same : (s : List ℕ) (message cause : ℕ) (old : List ℕ) {r r' : ℕ} {new new' : List ℕ} →
    Entered s message cause old r new → Entered s message cause old r' new' → (r ≡ r') × (new ≡ new')
entered_same s message cause old p q = both_same p q

-- What `rev_write_parameter` says.
abbrev pub Parametered : List ℕ → List ℕ → ℕ → List ℕ → Type 0
Parametered entry old r new =
    (r ≡ write_gives (record_at entry) (identifier_at entry) old) × (new ≡ write_leaves (record_at entry) (identifier_at entry) old)

pub parametered_same : (entry old : List ℕ) {r r' : ℕ} {new new' : List ℕ} →
    Parametered entry old r new → Parametered entry old r' new' → (r ≡ r') × (new ≡ new')
parametered_same entry old p q = both_same p q

-- What `write_sent` says.
abbrev pub Sent : Note → ℕ → List ℕ → Result ℕ Unwritten → List ℕ → Type 0
Sent n id old w new =
    (w ≡ written_of (bad_of (sent_of n id)) (parameter_text (sent_of n id)) old)
    × (new ≡ leaves_of (bad_of (sent_of n id)) (parameter_text (sent_of n id)) old)

pub sent_same : (n : Note) (id : ℕ) (old : List ℕ) {w w' : Result ℕ Unwritten} {new new' : List ℕ} →
    Sent n id old w new → Sent n id old w' new' → (w ≡ w') × (new ≡ new')
sent_same n id old p q = both_same p q

-- What `keep` says of the components from a place on: what became of their entries, and of the buffer.
pub keeps_same : (message cause : ℕ) (p : Parameter) (old : List ℕ) (from : ℕ) {k k' : Result ℕ Refusal} {new new' : List ℕ} →
    Keeps message cause p old from k new → Keeps message cause p old from k' new' → (k ≡ k') × (new ≡ new')
unfolding Keeps
keeps_same message cause (refused n place) old from p q = both_same p q
keeps_same message cause (holds cs) old from p q =
    let e = same p.0 q.0 in
    (e, p.1 ∙ ap (λ (k : Result ℕ Refusal). kept_of k old from (entries_of message cause cs)) e ∙ sym q.1)
