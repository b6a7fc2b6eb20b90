-- What the splits of a line, and the digits of a word, come to.
-- Assumes nothing.
use Rattle.std.proofs.Common.{◌≡◌, ℕ, ◌+◌, ◌*◌, ◌%◌, Bool, true, false, not, cond, List, [], ◌∷◌, Option, None, Some, Bor, drop, get_or, one-add, refl, ap, ◌∙◌}
use Rattle.std.specs.List.{slice_get, prefix_len, fold}
use Rattle.std.specs.Option.{option_map, unwrap_or}
use Rattle.std.specs.Str.{bytes_eq}
use Rattle.std.proofs.Math.Nat.{mod-add-mod}
use Rattle.std.proofs.lemmas.Nat.{mul-mod_first}
use Rattle.std.proofs.lemmas.Option.{unwrap_or-slice_get}
use Rattle.pieces.specs.Pieces.{after_of}

now_or : (r : Option (Bor (List ℕ))) (d : Bor (List ℕ)) → (unwrap_or r d).now ≡ unwrap_or (option_map (λ x. x.now) r) d.now
now_or None d = refl
now_or (Some x) d = refl

-- the k-th of a list, or nothing
pub kth : (r : Option (Bor (List ℕ))) (x d : Bor (List ℕ)) (ws : List (List ℕ)) (k : ℕ) → x ≡ unwrap_or r d → d.now ≡ []
    → option_map (λ y. y.now) r ≡ slice_get ws k → x.now ≡ get_or ws k []
kth r x d ws k e f g =
    ap (λ (y : Bor (List ℕ)). y.now) e ∙ now_or r d ∙ ap (λ (o : Option (List ℕ)). unwrap_or o d.now) g
    ∙ ap (λ (y : List ℕ). unwrap_or (slice_get ws k) y) f ∙ unwrap_or-slice_get ws k []

module _ (name w : List ℕ) (ws : List (List ℕ)) (n : ℕ) (ih : get_or (drop n ws) 1 [] ≡ after_of name ws) where
  follows_by : (b : Bool) → get_or (drop (cond (not b) (1 + n) 0) (w ∷ ws)) 1 [] ≡ cond b (get_or ws 0 []) (after_of name ws)
  follows_by true = refl
  follows_by false = ap (λ (k : ℕ). get_or (drop k (w ∷ ws)) 1 []) (one-add n) ∙ ih

-- the list without those before the name: its second is what follows the name
pub follows : (name : List ℕ) (ws : List (List ℕ)) → get_or (drop (prefix_len (λ w. not (bytes_eq w name)) ws) ws) 1 [] ≡ after_of name ws
follows name [] = refl
follows name (w ∷ ws) = follows_by name w ws (prefix_len (λ v. not (bytes_eq v name)) ws) (follows name ws) (bytes_eq w name)

turn : (m n r d : ℕ) → r ≡ n % m → (r * 10 % m + d) % m ≡ (n * 10 + d) % m
turn m n r d e =
    ap (λ (x : ℕ). (x * 10 % m + d) % m) e ∙ ap (λ (x : ℕ). (x + d) % m) (mul-mod_first n 10 m) ∙ mod-add-mod (n * 10) m d

-- each turn keeps the number modulo m
pub wraps_on : (m : ℕ) (n r : ℕ) (w : List ℕ) → r ≡ n % m → fold (λ a b. (a * 10 % m + b % 16) % m) r w ≡ fold (λ a b. a * 10 + b % 16) n w % m
wraps_on m n r [] e = e
wraps_on m n r (b ∷ w) e = wraps_on m (n * 10 + b % 16) ((r * 10 % m + b % 16) % m) w (turn m n r (b % 16) e)
