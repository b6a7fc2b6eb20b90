-- A component that was read ends where its own length says, and no encoding of it is shorter than the one that is written.
-- Assumes nothing.
use mathlib.Core.Path.{◌≡◌, refl, sym, ap, subst, ◌∙◌}
use mathlib.Core.List.{List}
use Prim.Native.Nat.{ℕ, ◌+◌, ◌≤◌}
use native.Mathlib.Omega.{arith}
use lib.ListN.{length, take}
use lib.Seq.{length-take-le}
use Rattle.text.proofs.Cases.{no_eq, both_eq}
use Rattle.wire.specs.Bytes.{byte_at}
use Rattle.wire.specs.Heads.{head_of}
use Rattle.wire.specs.Cursors.{absent_of, inside_of, may_of, need_of, closed_of, checked_of}
use Rattle.wire.specs.Values.{listed_at, problem_tag}
use Rattle.wire.specs.Grammar.{any, code_of, item_at, parts_of, made_of, bare_of, answer_of, invoke_of, result_of, error_of, named_of, name_of, reject_of, kind_of, whole_of, component_of}
use Rattle.wire.specs.Texts.{id_text, rejected_text, parts_text, component_text}
use Rattle.wire.specs.declared.Component.{Component}
use Rattle.wire.specs.declared.Cursor.{Cursor}
use Rattle.wire.specs.declared.Said.{Said}
use Rattle.wire.proofs.Pieces.{rejected_two, size_invoke, size_result, size_error, size_reject}
use Rattle.wire.proofs.Levels.{HeadWithin, head_within}
use Rattle.wire.proofs.Bounds.{Got, took, none, need_took, may_got, checked_live, closed_live, inside_live}
use Rattle.wire.proofs.Spent.{got_far, invoke_enough, result_enough}
use Rattle.wire.specs.Answers.{Answer, Head, element, refusal}
use Rattle.std.specs.Prelude.{Ok, Err}

-- of a component at a place, in bytes that end with it
abbrev Fair : ℕ → ℕ → Answer → Type 0
Fair place end (Err stop) = Unit {0}
Fair place end (Ok (m, next)) = (place + length (component_text m) ≤ next) × (next ≡ end)

answer_fair : (c : Cursor) (m : Component) (place end : ℕ) → (c.number ≡ 0 → (place + length (component_text m) ≤ c.at) × (c.at ≡ end)) → Fair place end (answer_of c m)
unfolding answer_of
answer_fair c m place end f = both_eq c.number 0 (Fair place end) _ _ f (λ _. tt)

-- op, err
code_took : (s : List ℕ) (c : Cursor) (end low high : ℕ) → (code_of s c end low high).number ≡ 0 → (c.number ≡ 0) × (c.at + 9 ≤ (code_of s c end low high).at) × ((code_of s c end low high).at ≤ end)
unfolding code_of
code_took s c end low high z =
    let e : Cursor = need_of s c end 6 7 7 in
    let h = checked_live (listed_at s (need_of s c end 6 7 7).body low high) c.at (need_of s c end 6 7 7) z in
    let at-is : (checked_of (listed_at s (need_of s c end 6 7 7).body low high) c.at (need_of s c end 6 7 7)).at ≡ (need_of s c end 6 7 7).at = ap (λ (y : Cursor). y.at) h.0 in
    let t = need_took s c end 6 7 7 (sym (ap (λ (y : Cursor). y.number) h.0) ∙ z) in
    let a = t.begins in
    let b = t.least_is in
    let d = t.ends in
    (t.from, omega arith, omega arith)

id_took : (s : List ℕ) (c : Cursor) (end : ℕ) → (need_of s c end 2 1 1).number ≡ 0 → (c.number ≡ 0) × (c.at + 3 ≤ (need_of s c end 2 1 1).at) × ((need_of s c end 2 1 1).at ≤ end)
id_took s c end z = let t = need_took s c end 2 1 1 z in let a = t.begins in let b = t.least_is in (t.from, omega arith, t.ends)

absent_at : (at : ℕ) → (absent_of at).at ≡ at
unfolding absent_of
absent_at at = refl

module _ (k x i : ℕ) (d : Said) where
  made_kind : (made_of k x d i).kind ≡ k
  unfolding made_of
  made_kind = refl

bare_kind : (k x i : ℕ) → (bare_of k x i).kind ≡ k
unfolding bare_of
bare_kind k x i = refl

bare_id : (k x i : ℕ) → (bare_of k x i).id ≡ i
unfolding bare_of
bare_id k x i = refl

rejected_most : (x : ℕ) → length (rejected_text x) ≤ 3
unfolding rejected_text id_text
rejected_most x = both_eq x 256 (λ (t : List ℕ). length t ≤ 3) _ _ (λ _. omega arith) (λ _. omega arith)

-- no refusal is a component
abbrev is_read : Answer → ℕ
is_read (Err stop) = 0
is_read (Ok (c, next)) = 1

refused_read : (n place : ℕ) (c : Component) (next : ℕ) → ◌≡◌ {A = Answer} (Err (refusal n place)) (Ok (c, next)) → ⊥
refused_read n place c next e = let z : ◌≡◌ {A = ℕ} 0 1 = ap is_read e in omega arith

module _ (s : List ℕ) (at end : ℕ) where
  abbrev i : Cursor
  i = need_of s (absent_of at) end 2 1 1

  -- { id [80 01 xx] op SEQ }
  abbrev il : Cursor
  il = may_of s i end 128 1 1

  abbrev io : Cursor
  io = code_of s il end 1 3

  abbrev iq : Cursor
  iq = need_of s io end 48 0 any

  abbrev id : Said
  id = parts_of s (inside_of iq) iq.at 1 (item_at s io)

  abbrev im : Component
  im = made_of 1 (item_at s io) id (byte_at s i.body)

  invoke_ends : (place : ℕ) → place + 2 ≤ at → (closed_of s id.cursor end).number ≡ 0
      → (place + length (component_text im) ≤ (closed_of s id.cursor end).at) × ((closed_of s id.cursor end).at ≡ end)
  invoke_ends place p z =
      let c = closed_live s id.cursor end z in
      let ca : (closed_of s id.cursor end).at ≡ id.cursor.at = ap (λ (y : Cursor). y.at) c.0 in
      let cz : id.cursor.number ≡ 0 = sym (ap (λ (y : Cursor). y.number) c.0) ∙ z in
      let e = invoke_enough s (inside_of iq) iq.at (item_at s io) (byte_at s i.body) cz in
      let n = inside_live iq e.0 in
      let t = need_took s io end 48 0 any n.0 in
      let u = code_took s il end 1 3 t.from in
      let v = got_far i il end 1 1 (may_got s i end 128 1 1 u.0) in
      let w = id_took s (absent_of at) end v.0 in
      let y = size_invoke im (length (parts_text im)) refl (made_kind 1 (item_at s io) (byte_at s i.body) id) in
      let e1 = e.1 in
      let n1 = n.1 in
      let t1 = t.begins in
      let t2 = t.least_is in
      let t3 = t.ends in
      let u1 = u.1 in
      let v1 = v.1 in
      let w1 = w.1 in
      let c1 = c.1 in
      let a = absent_at at in
      let e2 = e.2 (omega arith) in
      (omega arith, omega arith)

  -- { id 30 len { op SEQ } }
  abbrev rh : Cursor
  rh = need_of s i end 48 0 any

  abbrev ro : Cursor
  ro = code_of s (inside_of rh) rh.at 1 3

  abbrev rq : Cursor
  rq = need_of s ro rh.at 48 0 any

  abbrev rd : Said
  rd = parts_of s (inside_of rq) rq.at 2 (item_at s ro)

  abbrev rm : Component
  rm = made_of 2 (item_at s ro) rd (byte_at s i.body)

  abbrev ry : Cursor
  ry = closed_of s rd.cursor rh.at

  result_ends : (place : ℕ) → place + 2 ≤ at → (closed_of s ry end).number ≡ 0 → (place + length (component_text rm) ≤ (closed_of s ry end).at) × ((closed_of s ry end).at ≡ end)
  result_ends place p z =
      let b = closed_live s ry end z in
      let ba : (closed_of s ry end).at ≡ ry.at = ap (λ (y : Cursor). y.at) b.0 in
      let c = closed_live s rd.cursor rh.at (sym (ap (λ (y : Cursor). y.number) b.0) ∙ z) in
      let ca : ry.at ≡ rd.cursor.at = ap (λ (y : Cursor). y.at) c.0 in
      let cz : rd.cursor.number ≡ 0 = sym (ap (λ (y : Cursor). y.number) (b.0 ∙ c.0)) ∙ z in
      let e = result_enough s (inside_of rq) rq.at (item_at s ro) (byte_at s i.body) cz in
      let n = inside_live rq e.0 in
      let t = need_took s ro rh.at 48 0 any n.0 in
      let u = code_took s (inside_of rh) rh.at 1 3 t.from in
      let f = inside_live rh u.0 in
      let g = need_took s i end 48 0 any f.0 in
      let w = id_took s (absent_of at) end g.from in
      let k2 = made_kind 2 (item_at s ro) (byte_at s i.body) rd in
      let y = size_result rm (length (parts_text rm)) refl (λ o. omega arith) k2 in
      let e1 = e.1 in
      let n1 = n.1 in
      let t1 = t.begins in
      let t2 = t.least_is in
      let t3 = t.ends in
      let u1 = u.1 in
      let f1 = f.1 in
      let g1 = g.begins in
      let g3 = g.ends in
      let w1 = w.1 in
      let b1 = b.1 in
      let a = absent_at at in
      let e2 = e.2 (omega arith) in
      (omega arith, omega arith)

  -- { id err }
  abbrev eo : Cursor
  eo = code_of s i end 4 12

  abbrev em : Component
  em = bare_of 3 (item_at s eo) (byte_at s i.body)

  error_ends : (place : ℕ) → place + 2 ≤ at → (closed_of s eo end).number ≡ 0 → (place + length (component_text em) ≤ (closed_of s eo end).at) × ((closed_of s eo end).at ≡ end)
  error_ends place p z =
      let c = closed_live s eo end z in
      let ca : (closed_of s eo end).at ≡ eo.at = ap (λ (y : Cursor). y.at) c.0 in
      let u = code_took s i end 4 12 (sym (ap (λ (y : Cursor). y.number) c.0) ∙ z) in
      let w = id_took s (absent_of at) end u.0 in
      let k = bare_kind 3 (item_at s eo) (byte_at s i.body) in
      let y = size_error em (λ o. omega arith) (λ o. omega arith) k in
      let u1 = u.1 in
      let u2 = u.2 in
      let w1 = w.1 in
      let c1 = c.1 in
      let a = absent_at at in
      (omega arith, omega arith)

  -- { id|05 00  8p 01 xx }
  abbrev jn : Cursor
  jn = may_of s (absent_of at) end 5 0 0

  abbrev ji : Cursor
  ji = named_of s jn end

  abbrev jp : Cursor
  jp = need_of s ji end (problem_tag (byte_at s ji.at)) 1 1

  abbrev jm : Component
  jm = bare_of 4 0 (name_of jn (byte_at s ji.body))

  -- a name in three bytes, or a NULL in two
  name_bytes : ji.number ≡ 0 → at + length (rejected_text (name_of jn (byte_at s ji.body))) ≤ ji.at
  unfolding named_of name_of
  name_bytes =
      both_eq jn.body 0 (λ (x : Cursor). x.number ≡ 0 → at + length (rejected_text (name_of jn (byte_at s x.body))) ≤ x.at) (need_of s jn end 2 1 1) jn
      (λ h z. let t = need_took s jn end 2 1 1 z in
      let g = got_far (absent_of at) jn end 0 0 (may_got s (absent_of at) end 5 0 0 t.from) in
      let l = rejected_most (name_of jn (byte_at s (need_of s jn end 2 1 1).body)) in
      let t1 = t.begins in
      let t2 = t.least_is in
      let g1 = g.1 in
      let a = absent_at at in
      omega arith)
      (λ h z. null-bytes (may_got s (absent_of at) end 5 0 0 z) h (sym (no_eq jn.body 0 _ _ _ h refl)))
    where
      null-bytes : Got (absent_of at) jn end 0 0 → (jn.body ≡ 0 → ⊥) → name_of jn (byte_at s jn.body) ≡ 256 → at + length (rejected_text (name_of jn (byte_at s jn.body))) ≤ jn.at
      null-bytes (took t) h e =
          let l = rejected_two (name_of jn (byte_at s jn.body)) e in
          let t1 = t.begins in
          let t2 = t.least_is in
          let a = absent_at at in
          omega arith
      null-bytes (none x y w) h e = absurd (h y)

  reject_ends : (place : ℕ) → place + 2 ≤ at → (closed_of s jp end).number ≡ 0 → (place + length (component_text jm) ≤ (closed_of s jp end).at) × ((closed_of s jp end).at ≡ end)
  reject_ends place p z =
      let c = closed_live s jp end z in
      let ca : (closed_of s jp end).at ≡ jp.at = ap (λ (y : Cursor). y.at) c.0 in
      let t = need_took s ji end (problem_tag (byte_at s ji.at)) 1 1 (sym (ap (λ (y : Cursor). y.number) c.0) ∙ z) in
      let n = name_bytes t.from in
      let x : ℕ = name_of jn (byte_at s ji.body) in
      let k = bare_kind 4 0 x in
      let r : length (rejected_text x) ≡ length (rejected_text jm.id) = ap (λ (y : ℕ). length (rejected_text y)) (sym (bare_id 4 0 x)) in
      let y = size_reject jm (length (rejected_text x)) r (λ o. omega arith) (λ o. omega arith) (λ o. omega arith) in
      let t1 = t.begins in
      let t2 = t.least_is in
      let t3 = t.ends in
      let c1 = c.1 in
      (omega arith, omega arith)

kind_fair : (s : List ℕ) (place tag at : ℕ) → place + 2 ≤ at → Fair place (length s) (kind_of s place tag at)
unfolding kind_of invoke_of result_of error_of reject_of
kind_fair s place tag at p =
    both_eq _ _ (Fair place (length s)) _ _ (λ _. answer_fair _ _ place (length s) (invoke_ends s at (length s) place p)) λ _.
    both_eq _ _ (Fair place (length s)) _ _ (λ _. answer_fair _ _ place (length s) (result_ends s at (length s) place p)) λ _.
    both_eq _ _ (Fair place (length s)) _ _ (λ _. answer_fair _ _ place (length s) (error_ends s at (length s) place p)) λ _.
    both_eq _ _ (Fair place (length s)) _ _ (λ _. answer_fair _ _ place (length s) (reject_ends s at (length s) place p)) (λ _. tt)

-- what was read: by its head
pub record Headed (s : List ℕ) (at : ℕ) (c : Component) (next : ℕ) : Type 0 where
  pub tag : ℕ
  pub body : ℕ
  pub head_is : head_of s at (length s) 11 ≡ Ok (element tag body next)
  pub short : at + length (component_text c) ≤ next

headed_by : (s : List ℕ) (at next : ℕ) (c : Component) (h : Head) → h ≡ head_of s at (length s) 11 → HeadWithin at (length s) h → whole_of s at h ≡ Ok (c, next) → Headed s at c next
unfolding whole_of
headed_by s at next c (Err n) e w f = absurd (refused_read n at c next f)
headed_by s at next c (Ok el) e (a, b, d) f =
    let l = length-take-le el.next s d in
    let g : Fair at (length (take el.next s)) (Ok (c, next)) = subst (Fair at (length (take el.next s))) f (kind_fair (take el.next s) at el.tag el.body (omega arith)) in
    let g0 = g.0 in
    let g1 = g.1 in
    let z : el.next ≡ next = omega arith in
    record { tag = el.tag; body = el.body; head_is = sym e ∙ ap (λ (w : ℕ). Ok (element el.tag el.body w)) z; short = g0 }

pub headed : (s : List ℕ) (at next : ℕ) (c : Component) → component_of s at ≡ Ok (c, next) → Headed s at c next
unfolding component_of
headed s at next c e = headed_by s at next c (head_of s at (length s) 11) refl (head_within s at (length s) 11) e
