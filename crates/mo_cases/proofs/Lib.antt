mod Diamond
mod OneFile
