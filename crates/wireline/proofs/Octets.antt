-- Hexadecimal text, written octet by octet and read byte by byte: what each turn of the loops keeps.
-- Assumes nothing.
use Rattle.std.proofs.Common.{◌≡◌, ℕ, ◌+◌, ◌-◌, ◌*◌, ◌^◌, ◌<◌, ◌≤◌, Option, None, Some, List, [], ◌∷◌, ◌++◌, length, get_or, drop, sym, refl, ap, ◌∙◌, append_assoc, append-nil, add-one, length-append, length-drop, drop_of_length-le, drop-cons, arith}
use Rattle.text.specs.Page.{Wrote}
use Rattle.text.specs.Text.{Put}
use Rattle.text.specs.declared.page.Page.{Page}
use Rattle.text.proofs.Cases.{yes_lt, no_lt, no_eq, both_lt, both_eq}
use Rattle.text.proofs.Writes.{wrote_none, wrote_after, wrote_as, wrote_put}
use Rattle.wireline.specs.Hex.{octet_text, end_text, hex_text, digit_of, meaning_of}
use Rattle.wireline.specs.Hex.{Meant, nothing, octets, before, meant_by, meant_from, hexed_of, Laid}
use Rattle.wireline.specs.declared.hex.HexByte.{HexByte}
use Rattle.wireline.specs.declared.hex.HexByte.TheVariants.{Digit, Blank, Other}

next : (s : List ℕ) (i : ℕ) → i < length s → drop i s ≡ get_or s i 0 ∷ drop (i + 1) s
next s i h = drop-cons s i 0 h ∙ ap (λ (k : ℕ). get_or s i 0 ∷ drop k s) (sym (add-one i))

-- ---- written

pub record Writing (s : List ℕ) (old new : Page) (i : ℕ) : Type 0 where
  pub text : List ℕ
  pub put : Wrote text old new
  pub all : text ++ hex_text (drop i s) ≡ hex_text s

pub writing_none : (s : List ℕ) (old : Page) → Writing s old old 0
writing_none s old = record { text = []; put = wrote_none old; all = refl }

module _ (s : List ℕ) (old new : Page) (i : ℕ) (w : Writing s old new i) where
  pub writing_on : (mid new' : Page) (left : ℕ) → i < length s → left ≡ length s - (i + 1)
      → Wrote (octet_text (get_or s i 0)) new mid → Wrote (end_text left) mid new' → Writing s old new' (i + 1)
  unfolding hex_text octet_text end_text
  writing_on mid new' left h e p q =
      let b = octet_text (get_or s i 0) in
      let d = drop (i + 1) s in
      let f : left ≡ length d = e ∙ sym (length-drop (i + 1) s) in
      record {
        text = (w.text ++ b) ++ end_text left;
        put = wrote_after q (wrote_after p w.put);
        all =
            ap (λ (k : ℕ). ((w.text ++ b) ++ end_text k) ++ hex_text d) f
            ∙ append_assoc (w.text ++ b) (end_text (length d)) (hex_text d)
            ∙ append_assoc w.text b (end_text (length d) ++ hex_text d)
            ∙ ap (λ (l : List ℕ). w.text ++ hex_text l) (sym (next s i h))
            ∙ w.all;
      }

  pub writing_done : length s ≤ i → Wrote (hex_text s) old new
  unfolding hex_text
  writing_done h =
      wrote_as (sym (append-nil w.text) ∙ ap (λ (l : List ℕ). w.text ++ hex_text l) (sym (drop_of_length-le s h)) ∙ w.all) w.put

-- ---- read

abbrev pub joined : List ℕ → Meant → Meant
joined [] m = m
joined (b ∷ t) m = before b (joined t m)

joined_nothing : (t : List ℕ) → joined t nothing ≡ nothing
unfolding before
joined_nothing [] = refl
joined_nothing (b ∷ t) = ap (before b) (joined_nothing t)

joined_more : (t : List ℕ) (b : ℕ) (m : Meant) → joined (t ++ (b ∷ [])) m ≡ joined t (before b m)
joined_more [] b m = refl
joined_more (a ∷ t) b m = ap (before a) (joined_more t b m)

joined_all : (t u : List ℕ) → joined t (octets u) ≡ octets (t ++ u)
unfolding before
joined_all [] u = refl
joined_all (b ∷ t) u = ap (before b) (joined_all t u)

pub record Reading (s : List ℕ) (old new : Page) (half : Option ℕ) (i : ℕ) : Type 0 where
  pub said : List ℕ
  pub put : Wrote said old new
  pub all : joined said (meant_from half (drop i s)) ≡ hexed_of s
  pub few : length said ≤ i

pub reading_none : (s : List ℕ) (old : Page) → Reading s old old None 0
unfolding hexed_of
reading_none s old = record { said = []; put = wrote_none old; all = refl; few = omega arith }

module _ (s : List ℕ) (old new : Page) (half : Option ℕ) (i : ℕ) (r : Reading s old new half i) where
  module _ (h : length s ≤ i) where
    ended : (o : Option ℕ) → half ≡ o → joined r.said (meant_from o []) ≡ hexed_of s
    ended o e =
        ap (λ (k : Option ℕ). joined r.said (meant_from k [])) (sym e)
        ∙ ap (λ (l : List ℕ). joined r.said (meant_from half l)) (sym (drop_of_length-le s h)) ∙ r.all

    pub reading_done : (first last : List ℕ) → half ≡ None → old.at ≡ 0 → old.out.now ≡ first → last ≡ new.out.now → length first < 2 ^ 63 → i < 2 ^ 63
        → Laid (hexed_of s) first last new.at
    unfolding meant_from
    reading_done first last e z f l g k =
        let p : Put old.out.now old.at r.said new.out.now new.at = wrote_put (rw f g) (omega (arith, r.few)) r.put in
        record { said = r.said; meant = sym (ended None e) ∙ joined_all r.said [] ∙ ap octets (append-nil r.said); put = rw (sym f, l, sym z) p }

    pub reading_odd : (high : ℕ) → half ≡ Some high → hexed_of s ≡ nothing
    unfolding meant_from
    reading_odd high e = sym (ended (Some high) e) ∙ joined_nothing r.said

  module _ (m : HexByte) (h : i < length s) (e : m ≡ meaning_of (get_or s i 0)) where
    abbrev rest : Option ℕ → Meant
    rest k = meant_from k (drop (i + 1) s)

    by : (d : HexByte) (o : Option ℕ) → m ≡ d → half ≡ o → joined r.said (meant_by d o rest) ≡ hexed_of s
    unfolding meant_from
    by d o f g =
        ap (λ (k : Option ℕ). joined r.said (meant_by d k rest)) (sym g)
        ∙ ap (λ (x : HexByte). joined r.said (meant_by x half rest)) (sym f ∙ e)
        ∙ ap (λ (l : List ℕ). joined r.said (meant_from half l)) (sym (next s i h)) ∙ r.all

    pub reading_other : m ≡ Other → hexed_of s ≡ nothing
    unfolding meant_by
    reading_other f = sym (by Other half f refl) ∙ joined_nothing r.said

    pub reading_blank : m ≡ Blank → Reading s old new half (i + 1)
    unfolding meant_by
    reading_blank f = record { said = r.said; put = r.put; all = by Blank half f refl; few = omega (arith, r.few) }

    module _ (d : ℕ) (f : m ≡ Digit d) where
      pub reading_half : half ≡ None → Reading s old new (Some d) (i + 1)
      unfolding meant_by
      reading_half g = record { said = r.said; put = r.put; all = by (Digit d) None f g; few = omega (arith, r.few) }

      pub reading_octet : (new' : Page) (high : ℕ) → half ≡ Some high → Wrote ((high * 16 + d) ∷ []) new new' → Reading s old new' None (i + 1)
      unfolding meant_by
      reading_octet new' high g p =
          let b = high * 16 + d in
          record {
            said = r.said ++ (b ∷ []);
            put = wrote_after p r.put;
            all = joined_more r.said b (rest None) ∙ by (Digit d) (Some high) f g;
            few = omega (arith, r.few, length-append r.said (b ∷ []));
          }

-- ---- what a byte is

abbrev Is : ℕ → ℕ → Type 0
Is b k = b ≡ k → ⊥

-- one of the four
pub blank_is : (b : ℕ) → (Is b 32 → Is b 9 → Is b 10 → Is b 13 → ⊥) → Blank ≡ meaning_of b
unfolding meaning_of
blank_is b h =
    let P = λ (m : HexByte). Blank ≡ m in
    both_eq b 32 P _ _ (λ _. refl)
    (λ p. both_eq b 9 P _ _ (λ _. refl) (λ q. both_eq b 10 P _ _ (λ _. refl) (λ r. both_eq b 13 P _ _ (λ _. refl) (λ t. absurd (h p q r t)))))

-- none of the four
marked : (b : ℕ) (m : HexByte) → Is b 32 → Is b 9 → Is b 10 → Is b 13 → m ≡ digit_of b → m ≡ meaning_of b
unfolding meaning_of
marked b m p q r t e = no_eq _ _ _ _ _ p (no_eq _ _ _ _ _ q (no_eq _ _ _ _ _ r (no_eq _ _ _ _ _ t e)))

pub number_is : (b : ℕ) → 48 ≤ b → b < 58 → Digit (b - 48) ≡ meaning_of b
unfolding digit_of
number_is b g l =
    marked b _ (λ e. omega arith) (λ e. omega arith) (λ e. omega arith) (λ e. omega arith)
    (no_lt _ _ _ _ _ g (yes_lt _ _ _ _ _ l refl))

pub capital_is : (b : ℕ) → 65 ≤ b → b < 71 → Digit (b - 55) ≡ meaning_of b
unfolding digit_of
capital_is b g l =
    marked b _ (λ e. omega arith) (λ e. omega arith) (λ e. omega arith) (λ e. omega arith)
    (no_lt _ _ _ _ _ (omega arith) (no_lt _ _ _ _ _ (omega arith) (no_lt _ _ _ _ _ g (yes_lt _ _ _ _ _ l refl))))

pub small_is : (b : ℕ) → 97 ≤ b → b < 103 → Digit (b - 87) ≡ meaning_of b
unfolding digit_of
small_is b g l =
    marked b _ (λ e. omega arith) (λ e. omega arith) (λ e. omega arith) (λ e. omega arith)
    (no_lt _ _ _ _ _ (omega arith)
    (no_lt _ _ _ _ _ (omega arith) (no_lt _ _ _ _ _ (omega arith) (no_lt _ _ _ _ _ (omega arith) (no_lt _ _ _ _ _ g (yes_lt _ _ _ _ _ l refl))))))

pub other_is : (b : ℕ) → Is b 32 → Is b 9 → Is b 10 → Is b 13 → (48 ≤ b → b < 58 → ⊥) → (65 ≤ b → b < 71 → ⊥) → (97 ≤ b → b < 103 → ⊥)
    → Other ≡ meaning_of b
unfolding digit_of
other_is b p q r t x y z =
    let P = λ (m : HexByte). Other ≡ m in
    marked b Other p q r t
    (both_lt b 48 P _ _ (λ _. refl)
    (λ g. both_lt b 58 P _ _ (λ l. absurd (x g l))
    (λ _. both_lt b 65 P _ _ (λ _. refl)
    (λ g. both_lt b 71 P _ _ (λ l. absurd (y g l))
    (λ _. both_lt b 97 P _ _ (λ _. refl) (λ g. both_lt b 103 P _ _ (λ l. absurd (z g l)) (λ _. refl)))))))
