-- The search for the first header that shares an address with an earlier one.
use Rattle.std.proofs.Common.{◌≡◌, ℕ, ◌+◌, ◌<◌, Bool, true, false, ◌&&◌, ◌||◌, not, List, [], ◌∷◌}
use Rattle.std.proofs.Common.{◌++◌, length, get_or, take, drop, Option, Some, refl, ap, sym, subst}
use Rattle.std.proofs.Common.{◌∙◌, arith, if◌then◌else◌}
use Rattle.std.specs.List.{list_any}
use Rattle.std.proofs.lemmas.List.{drop_more, take_more, length-take-le}
use Rattle.elf_reader.specs.declared.entries.ProgramHeader.{ProgramHeader}
use Rattle.elf_reader.specs.Segments.{header_end, first_shared, is_loaded, occupies, shares}

and_any : (b : Bool) (q : ProgramHeader → Bool) (hs : List ProgramHeader)
    → list_any (λ h. b && q h) hs ≡ (b && list_any q hs)
and_any true q [] = refl
and_any false q [] = refl
and_any true q (h ∷ hs) = ap (λ t. q h || t) (and_any true q hs)
and_any false q (h ∷ hs) = and_any false q hs

-- whether a header shares an address with one of a list of headers
pub any_shares : (h : ProgramHeader) (hs : List ProgramHeader)
    → list_any (shares h) hs ≡ (is_loaded h && list_any (occupies h.p_vaddr (header_end h)) hs)
any_shares h hs = and_any (is_loaded h) (occupies h.p_vaddr (header_end h)) hs

any_push : (q : ProgramHeader → Bool) (hs : List ProgramHeader) (h : ProgramHeader)
    → list_any q (hs ++ h ∷ []) ≡ (list_any q hs || q h)
any_push q [] h = elim (q h) as (λ b. (b || false) ≡ (false || b)) [ true ↦ refl | false ↦ refl ]
any_push q (g ∷ hs) h =
    ap (λ t. q g || t) (any_push q hs h)
    ∙ elim (q g) as (λ b. (b || (list_any q hs || q h)) ≡ ((b || list_any q hs) || q h)) [
      | true ↦ refl
      | false ↦ refl
    ]

not_not : (x : Bool) → x ≡ not (not x)
not_not true = refl
not_not false = refl

-- the header that stands for a place past the end
abbrev pub blank : ProgramHeader
blank = record { p_type = 0; p_offset = 0; p_vaddr = 0; p_filesz = 0; p_memsz = 0; p_flags = 0 }

one_step : (hs : List ProgramHeader) (i : ℕ) (r : Option ℕ) → i < length hs
    → first_shared (take i hs) (drop i hs) ≡ r
    → (if list_any (shares (get_or hs i blank)) (take i hs) then Some i
    else first_shared (take (i + 1) hs) (drop (i + 1) hs)) ≡ r
one_step hs i r lt e =
    let h : ProgramHeader = get_or hs i blank in
    let len : length (take i hs) ≡ i = length-take-le i hs (omega arith) in
    rw (take_more hs i blank lt)
    (subst (λ n. (if list_any (shares h) (take i hs) then Some n
    else first_shared (take i hs ++ h ∷ []) (drop (i + 1) hs)) ≡ r) len
    (ap (first_shared (take i hs)) (sym (drop_more hs i blank lt)) ∙ e))

-- this header is the first
pub stops : (hs : List ProgramHeader) (i : ℕ) (r : Option ℕ) → i < length hs
    → first_shared (take i hs) (drop i hs) ≡ r
    → list_any (shares (get_or hs i blank)) (take i hs) ≡ true → Some i ≡ r
stops hs i r lt e s = rw s at (one_step hs i r lt e)

-- this header is not
pub goes_on : (hs : List ProgramHeader) (i : ℕ) (r : Option ℕ) → i < length hs
    → first_shared (take i hs) (drop i hs) ≡ r
    → list_any (shares (get_or hs i blank)) (take i hs) ≡ false
    → first_shared (take (i + 1) hs) (drop (i + 1) hs) ≡ r
goes_on hs i r lt e s = rw s at (one_step hs i r lt e)

-- one more header whose addresses are occupied
pub occupied_more : (from to : ℕ) (hs : List ProgramHeader) (i : ℕ) → i < length hs
    → list_any (occupies from to) (take (i + 1) hs)
    ≡ (list_any (occupies from to) (take i hs) || occupies from to (get_or hs i blank))
occupied_more from to hs i lt =
    rw (take_more hs i blank lt) (any_push (occupies from to) (take i hs) (get_or hs i blank))

-- whether a header shares an address, by what adding it returned
pub told : (hs : List ProgramHeader) (h : ProgramHeader) (free x : Bool)
    → x ≡ list_any (occupies h.p_vaddr (header_end h)) hs → free ≡ not (is_loaded h && x)
    → list_any (shares h) hs ≡ not free
told hs h free x same is =
    any_shares h hs
    ∙ (ap (λ t. is_loaded h && t) (sym same) ∙ (not_not (is_loaded h && x) ∙ ap not (sym is)))
