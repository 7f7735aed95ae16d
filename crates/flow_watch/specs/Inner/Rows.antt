-- Inner definitions: the fields of a watch, which are rows of iterations and the addresses of the
-- calls.
use Rattle.std.specs.Prelude.{◌≡◌, ℕ, zero, suc, ◌*◌, ◌^◌, ◌<◌, ◌≤◌, List, [], ◌∷◌, length, take}
use Rattle.std.specs.Prelude.{drop, slice_index, Option, option_map, IfSome}
use Rattle.rv_decode.specs.Address.{next_address, end_address}
use Rattle.flow_watch.specs.Watch.{Frame, Watch}

-- the iterations of a frame, 0 being the bottom one: a row with a count for each stated loop
abbrev pub frame_row : ℕ → List ℕ → ℕ → List ℕ
frame_row loops turns k = take loops (drop (k * loops) turns)

-- the return address of a frame: that of the job for the bottom one, otherwise the address after
-- its call
abbrev pub back : List ℕ → ℕ → ℕ
back calls zero = end_address
back calls (suc k) = next_address (slice_index calls k)

-- the lowest k frames, the innermost first
abbrev pub frames_of : ℕ → List ℕ → List ℕ → ℕ → List Frame
frames_of loops calls turns zero = []
frames_of loops calls turns (suc k) =
    record { back = back calls k; turns = frame_row loops turns k } ∷ frames_of loops calls turns k

-- the watch with some frames in use, or a broken one
abbrev pub watch_of : ℕ → List ℕ → List ℕ → Option ℕ → Watch
watch_of loops calls turns frames = option_map (frames_of loops calls turns) frames

-- the room: seventeen rows, sixteen calls, each call's address a word, and at most seventeen frames
-- in use
pub record IsRoom (loops : ℕ) (calls turns : List ℕ) (frames : Option ℕ) : Type 0 where
  pub rows : length turns ≡ 17 * loops
  pub most : length calls ≡ 16
  pub words : (k : ℕ) → slice_index calls k < 2 ^ 32
  pub few : IfSome frames (λ n. n ≤ 17)
