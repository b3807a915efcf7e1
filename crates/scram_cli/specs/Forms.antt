-- The forms of the command.
use Rattle.std.specs.Prelude.{ℕ, List, [], ◌∷◌, Option, Some, None, codes, option_and_then, option_map, if◌then◌else◌}
use Rattle.std.specs.Option.{option_or}
use Rattle.std.specs.Str.{bytes_eq}
use Rattle.spec_forms.specs.declared.choice_forms.states.StateWord.{StateWord}
use Rattle.spec_forms.specs.choice_forms.States.{state_in}
use Rattle.faults_form.specs.declared.counts.FaultCount.{FaultCount}
use Rattle.faults_form.specs.Counts.{fault_count}
use Rattle.kernel_pair.specs.declared.events.UnitHalt.{UnitHalt}
use Rattle.trace_text.specs.Spelling.{spelled_number}
use Rattle.scram_cli.specs.declared.forms.FlightForm.{FlightForm}
use Rattle.scram_cli.specs.declared.forms.FlightForm.TheVariants.{Run, Watch, Pair, Replay, Faults, Flights, Gen, Fly}
use Rattle.scram_cli.specs.declared.forms.Form.{Form}
use Rattle.scram_cli.specs.declared.forms.Form.TheVariants.{Flight, Specification, Trace, Told}
use Rattle.scram_cli.specs.declared.forms.Look.{Look}
use Rattle.scram_cli.specs.declared.forms.Look.TheVariants.{Props, Summary, Columns, Picture}
use Rattle.scram_cli.specs.declared.forms.SpecificationForm.{SpecificationForm}
use Rattle.scram_cli.specs.declared.forms.SpecificationForm.TheVariants.{Check, Bounds, Explain, ExplainScript, Fill, Choices, Choose}
use Rattle.scram_cli.specs.declared.pages.Page.TheVariants.{Help, Version}

-- The number of a mission that a word spells in decimal, at most 999,999, or `None` if the word spells no such number.
abbrev pub mission_number : List ℕ → Option ℕ
mission_number word = spelled_number 1000000 word

-- The form that consists of a command and a word that spells a number, or `None` if there is no such form.
abbrev pub form_of_number : List ℕ → List ℕ → Option (Form (List ℕ))
form_of_number command word =
    if bytes_eq command (codes "gen") then option_map (λ (number : ℕ). Flight (Gen number)) (mission_number word)
    else (if bytes_eq command (codes "fly") then option_map (λ (number : ℕ). Flight (Fly number)) (mission_number word) else None)

-- The form of one word, or `None` if there is no such form.
abbrev pub form_of_one : List ℕ → Option (Form (List ℕ))
form_of_one command =
    if bytes_eq command (codes "--help") then Some (Told Help)
    else (if bytes_eq command (codes "--version") then Some (Told Version) else None)

-- The question that `command` asks about the specification in a file, or `None` if there is no such question.
abbrev pub question_of : List ℕ → List ℕ → Option (SpecificationForm (List ℕ))
question_of command specification =
    if bytes_eq command (codes "check") then Some (Check specification)
    else (if bytes_eq command (codes "bounds") then Some (Bounds specification)
    else (if bytes_eq command (codes "explain") then Some (Explain specification)
    else (if bytes_eq command (codes "fill") then Some (Fill specification)
    else (if bytes_eq command (codes "choices") then Some (Choices specification) else None))))

-- The form of two words, or `None` if there is no such form.
abbrev pub form_of_two : List ℕ → List ℕ → Option (Form (List ℕ))
form_of_two command word =
    option_or (option_map (λ (question : SpecificationForm (List ℕ)). Specification question) (question_of command word)) (form_of_number command word)

-- The form about flights that consists of a command, the name of a specification's file and a further word, or `None`
-- if there is no such form.
abbrev pub flight_of_three : List ℕ → List ℕ → List ℕ → Option (FlightForm (List ℕ))
flight_of_three command specification further =
    if bytes_eq command (codes "run") then Some (Run specification further)
    else (if bytes_eq command (codes "watch") then Some (Watch specification further)
    else (if bytes_eq command (codes "faults") then option_map (λ (count : FaultCount). Faults specification count) (fault_count further)
    else (if bytes_eq command (codes "flights") then Some (Flights specification further) else None)))

-- The look at a trace that a command names, or `None` if there is no such look.
abbrev pub look_of : List ℕ → Option Look
look_of command =
    if bytes_eq command (codes "props") then Some Props
    else (if bytes_eq command (codes "summary") then Some Summary
    else (if bytes_eq command (codes "columns") then Some Columns
    else (if bytes_eq command (codes "picture") then Some Picture else None)))

-- The form of three words that looks at a trace, or `None` if there is no such form.
abbrev pub form_of_look : List ℕ → List ℕ → List ℕ → Option (Form (List ℕ))
form_of_look command specification trace = option_map (λ (look : Look). Trace look specification trace) (look_of command)

-- The form of three words that explains a script or looks at a trace, or `None` if there is no such form.
abbrev pub form_of_explained : List ℕ → List ℕ → List ℕ → Option (Form (List ℕ))
form_of_explained command specification further =
    if bytes_eq command (codes "explain") then Some (Specification (ExplainScript specification further))
    else form_of_look command specification further

-- The form of three words, or `None` if there is no such form.
abbrev pub form_of_three : List ℕ → List ℕ → List ℕ → Option (Form (List ℕ))
form_of_three command specification further =
    option_or (option_map (λ (flight : FlightForm (List ℕ)). Flight flight) (flight_of_three command specification further))
    (form_of_explained command specification further)

-- The form of four words, or `None` if there is no such form.
abbrev pub form_of_four : List ℕ → List ℕ → List ℕ → List ℕ → Option (Form (List ℕ))
form_of_four command specification script schedule =
    if bytes_eq command (codes "replay") then Some (Flight (Replay specification script schedule)) else None

-- The halt that three words spell in decimal, or `None` if they do not spell one. The unit is 0 or 1, the frame is at
-- most 19,999, and the number of steps is at most 31.
abbrev pub unit_halt : List ℕ → List ℕ → List ℕ → Option UnitHalt
unit_halt unit frame step =
    option_and_then
    (λ (unit : ℕ). option_and_then
    (λ (frame : ℕ). option_map (λ (step : ℕ). record { unit = unit; frame = frame; step = step }) (spelled_number 32 step))
    (spelled_number 20000 frame))
    (spelled_number 2 unit)

-- The form of six words, or `None` if there is no such form.
abbrev pub form_of_six : List ℕ → List ℕ → List ℕ → List ℕ → List ℕ → List ℕ → Option (Form (List ℕ))
form_of_six command specification script unit frame step =
    if bytes_eq command (codes "pair") then option_map (λ (halt : UnitHalt). Flight (Pair specification script halt)) (unit_halt unit frame step) else None

-- The form `choose` with the name of a specification's file, the name of a configuration and the words of a state, or
-- `None` if the words spell no state.
abbrev pub choose_form : List ℕ → List ℕ → List (List ℕ) → Option (Form (List ℕ))
choose_form specification conf state = option_map (λ (words : List StateWord). Specification (Choose specification conf words)) (state_in state)

-- The form of the words, or `None` if they have no form other than `choose`. Such a form has at most six words.
abbrev pub form_of_few : List (List ℕ) → Option (Form (List ℕ))
form_of_few [] = None
form_of_few (command ∷ []) = form_of_one command
form_of_few (command ∷ first ∷ []) = form_of_two command first
form_of_few (command ∷ first ∷ second ∷ []) = form_of_three command first second
form_of_few (command ∷ first ∷ second ∷ third ∷ []) = form_of_four command first second third
form_of_few (command ∷ first ∷ second ∷ third ∷ fourth ∷ []) = None
form_of_few (command ∷ first ∷ second ∷ third ∷ fourth ∷ fifth ∷ []) = form_of_six command first second third fourth fifth
form_of_few (command ∷ first ∷ second ∷ third ∷ fourth ∷ fifth ∷ sixth ∷ words) = None

-- The form of the words after the program's name, or `None` if there is no such form. The form contains the names of
-- the files.
abbrev pub form_of : List (List ℕ) → Option (Form (List ℕ))
form_of [] = form_of_few []
form_of (command ∷ []) = form_of_few (command ∷ [])
form_of (command ∷ specification ∷ []) = form_of_few (command ∷ specification ∷ [])
form_of (command ∷ specification ∷ conf ∷ state) =
    if bytes_eq command (codes "choose") then choose_form specification conf state else form_of_few (command ∷ specification ∷ conf ∷ state)

-- A form about flights with the names of its files mapped by a function.
abbrev pub flight_with_names : {A B : Type 0} → (A → B) → FlightForm A → FlightForm B
flight_with_names name (Run specification script) = Run (name specification) (name script)
flight_with_names name (Watch specification script) = Watch (name specification) (name script)
flight_with_names name (Pair specification script halt) = Pair (name specification) (name script) halt
flight_with_names name (Replay specification script schedule) = Replay (name specification) (name script) (name schedule)
flight_with_names name (Faults specification count) = Faults (name specification) count
flight_with_names name (Flights specification scripts) = Flights (name specification) (name scripts)
flight_with_names name (Gen number) = Gen number
flight_with_names name (Fly number) = Fly number

-- A question about a specification with the names in it mapped by a function.
abbrev pub question_with_names : {A B : Type 0} → (A → B) → SpecificationForm A → SpecificationForm B
question_with_names name (Check specification) = Check (name specification)
question_with_names name (Bounds specification) = Bounds (name specification)
question_with_names name (Explain specification) = Explain (name specification)
question_with_names name (ExplainScript specification script) = ExplainScript (name specification) (name script)
question_with_names name (Fill specification) = Fill (name specification)
question_with_names name (Choices specification) = Choices (name specification)
question_with_names name (Choose specification conf state) = Choose (name specification) (name conf) state

-- A form with the names in it mapped by a function.
abbrev pub with_names : {A B : Type 0} → (A → B) → Form A → Form B
with_names name (Flight flight) = Flight (flight_with_names name flight)
with_names name (Specification question) = Specification (question_with_names name question)
with_names name (Trace look specification trace) = Trace look (name specification) (name trace)
with_names name (Told page) = Told page

-- The names of the files of a form about flights, in the order in which the files are read.
abbrev pub flight_files : FlightForm (List ℕ) → List (List ℕ)
flight_files (Run specification script) = specification ∷ script ∷ []
flight_files (Watch specification script) = specification ∷ script ∷ []
flight_files (Pair specification script halt) = specification ∷ script ∷ []
flight_files (Replay specification script schedule) = specification ∷ script ∷ schedule ∷ []
flight_files (Faults specification count) = specification ∷ []
flight_files (Flights specification scripts) = specification ∷ scripts ∷ []
flight_files (Gen number) = []
flight_files (Fly number) = []

-- The names of the files of a question about a specification, in the order in which the files are read.
abbrev pub question_files : SpecificationForm (List ℕ) → List (List ℕ)
question_files (Check specification) = specification ∷ []
question_files (Bounds specification) = specification ∷ []
question_files (Explain specification) = specification ∷ []
question_files (ExplainScript specification script) = specification ∷ script ∷ []
question_files (Fill specification) = specification ∷ []
question_files (Choices specification) = specification ∷ []
question_files (Choose specification conf state) = specification ∷ []

-- The names of the files of a form, in the order in which the files are read. The list is empty for words that have
-- no form.
abbrev pub files_of : Option (Form (List ℕ)) → List (List ℕ)
files_of None = []
files_of (Some (Flight flight)) = flight_files flight
files_of (Some (Specification question)) = question_files question
files_of (Some (Trace look specification trace)) = specification ∷ trace ∷ []
files_of (Some (Told page)) = []
