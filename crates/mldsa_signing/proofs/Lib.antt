mod SecretRows
mod StepRows
mod Responses
mod Loop
