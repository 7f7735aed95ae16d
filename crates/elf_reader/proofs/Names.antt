-- Texts that end at a zero byte.
use Rattle.std.proofs.Common.{◌≡◌, ℕ, ◌-◌, ◌<◌, ◌≤◌, Bool, false, List, [], ◌∷◌, ◌++◌, length, take}
use Rattle.std.proofs.Common.{drop, get_or, Some, None, refl, ap, sym, subst, ◌∙◌, ⊎_elim, arith}
use Rattle.std.specs.Prelude.{position, filter_map, option_and_then, if◌then◌else◌, ◌==◌}
use Rattle.std.proofs.lemmas.Bool.{cases_lt}
use Rattle.std.proofs.lemmas.Bool.Decides.{nat_tests}
use Rattle.std.proofs.lemmas.Grind.{common_steps}
use Rattle.std.proofs.lemmas.List.{drop_all, take_more, take-append-le, drop-append-le}
use Rattle.std.proofs.lemmas.List.{length-append, length-take-le}
use Rattle.std.proofs.lemmas.List.Folds.{position_or_len_push}
use Rattle.std.proofs.lemmas.List.Quantifiers.{position-Some}
use Rattle.elf_reader.specs.declared.entries.SymbolEntry.{SymbolEntry}
use Rattle.elf_reader.specs.Symbols.{is_zero, symbol, symbol_text}

-- past the end there is no text
pub text_past : (bytes : List ℕ) (place : ℕ) → length bytes ≤ place
    → symbol_text (drop place bytes) ≡ None
unfolding symbol_text
text_past bytes place h = rw (drop_all place bytes h) refl

pub position_push : {X : Type 0} (p : X → Bool) (xs : List X) (x : X) → p x ≡ false
    → position p (xs ++ x ∷ []) ≡ position p xs
position_push p xs x h =
    rw (position_or_len_push p xs x, h) (grind (arith, common_steps, nat_tests))

pub text_push : (bytes : List ℕ) (b : ℕ) → is_zero b ≡ false
    → symbol_text (bytes ++ b ∷ []) ≡ symbol_text bytes
unfolding symbol_text
text_push bytes b h =
    rw (position_push is_zero bytes b h)
    (elim (position is_zero bytes) as (λ o. position is_zero bytes ≡ o
    → option_and_then (λ n. if n == 0 then None else Some (take n (bytes ++ b ∷ []))) o
    ≡ option_and_then (λ n. if n == 0 then None else Some (take n bytes)) o) [
      | None ↦ λ _. refl
      | Some n ↦ λ e. let lt =
          (position-Some is_zero bytes n 0 e).0 in
          ap (λ t. if n == 0 then None else Some t)
          (take-append-le n bytes (b ∷ []) (omega (arith, lt)))
    ] refl)

-- dropping a last byte that is not zero changes no text
pub text_shorter : (bytes : List ℕ) (end : ℕ) → 0 < end → end ≤ length bytes
    → is_zero (get_or bytes (end - 1) 0) ≡ false
    → (place : ℕ) → symbol_text (drop place (take (end - 1) bytes))
    ≡ symbol_text (drop place (take end bytes))
text_shorter bytes end some within last place =
    let front : List ℕ = take (end - 1) bytes in
    let is : take end bytes ≡ front ++ get_or bytes (end - 1) 0 ∷ [] =
    subst (λ n. take n bytes ≡ front ++ get_or bytes (end - 1) 0 ∷ []) (omega arith)
    (take_more bytes (end - 1) 0 (omega arith)) in
    let len : length front ≡ end - 1 = length-take-le (end - 1) bytes (omega arith) in
    rw is (⊎_elim
    (λ (lt : end - 1 < place).
    text_past front place (omega arith)
    ∙ sym (text_past (front ++ get_or bytes (end - 1) 0 ∷ []) place
    (omega (arith, length-append front (get_or bytes (end - 1) 0 ∷ [])))))
    (λ (le : place ≤ end - 1).
    rw (drop-append-le place front (get_or bytes (end - 1) 0 ∷ []) (omega arith))
    (sym (text_push (drop place front) (get_or bytes (end - 1) 0) last)))
    (cases_lt (end - 1) place))

-- two string sections with the same texts give an entry the same symbol
same_symbol : (a b : List ℕ)
    → ((place : ℕ) → symbol_text (drop place a) ≡ symbol_text (drop place b))
    → (entry : SymbolEntry) → symbol a entry ≡ symbol b entry
unfolding symbol
same_symbol a b same entry = rw (same entry.st_name) refl

pub same_symbols : (a b : List ℕ)
    → ((place : ℕ) → symbol_text (drop place a) ≡ symbol_text (drop place b))
    → (entries : List SymbolEntry) → filter_map (symbol a) entries ≡ filter_map (symbol b) entries
same_symbols a b same [] = refl
same_symbols a b same (entry ∷ entries) =
    rw (same_symbol a b same entry, same_symbols a b same entries) refl
